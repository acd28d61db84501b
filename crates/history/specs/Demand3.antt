-- Demand 3: one claim about all ways of working.
use Rattle.std.specs.Prelude.{ℕ, ◌*◌, ◌^◌, ◌≤◌, ◌<◌, ◌≡◌, true, false, List, length, take, ◌-ℤ◌, nat_abs}
use Rattle.std.proofs.Math.Option.{none, some}
use Rattle.level.specs.Level.{exact_sum}
use Rattle.level.specs.Finest.{finest_of}
use Rattle.columns.specs.Columns.{Row}
use Rattle.record.specs.Sound.{sound}
use Rattle.record.specs.Section.{Section, sections, written, find, kept}
use Rattle.totals.specs.Totals.{table_totals}
use Rattle.lists.specs.Lists.{any_of}
use Rattle.history.specs.Rows.{SameRows, section_bits, rows_totals, largest}
use Rattle.history.specs.Canonical.{canonical}
use Rattle.refusal.specs.Outcome.{accepted}
use Rattle.history.specs.Calls.{Question, exactness, Call, no_rows, ledger_after}
use Rattle.history.specs.Beneath.{beneath_after}
use Rattle.history.specs.Run.{Store, State, no_groups, state_after, exactness_is, ask_table, ask_rows, answers, answers_rows, refuses}

-- a way of working: the bytes in each table's buffer at the start, and the calls
pub record History : Type 0 where
  pub initial : ℕ → List ℕ
  pub calls : List Call

-- the state at the start: every table is empty
abbrev pub empty : History → State
empty h = no_groups h.initial

-- the lent lengths
abbrev pub lengths : History → ℕ → ℕ
lengths h i = length (h.initial i)

-- table i's rows after it, counted from the calls alone
abbrev pub rows : History → ℕ → List Row
rows h i = (ledger_after (lengths h) no_rows h.calls).rows i

-- the bytes beneath table i's records after it: those in its buffer at the start, or when a file was last loaded into it
abbrev pub beneath : History → ℕ → List ℕ
beneath h i = beneath_after (lengths h) no_rows h.initial h.calls i

-- table i after it
abbrev pub table : History → ℕ → Store
table h i = (state_after (empty h) h.calls).tables i

-- document 01's used bytes
abbrev pub used : Store → List ℕ
used t = take (64 * t.groups) t.buffer

-- the sections that a table holds
abbrev pub sections_in : Store → List Section
sections_in t = sections t.buffer t.groups

-- the one claim, about the whole of every list of calls
pub record Demand3 : Type 0 where
  -- a table holds the records that document 01 fixes for its rows, and after them what its buffer held beneath
  pub fixed : (h : History) (i : ℕ)
      → table h i ≡ record { buffer = written (canonical (rows h i)) (beneath h i); groups = length (canonical (rows h i)) }
  -- every table is sound
  pub always_sound : (h : History) (i : ℕ) → sound (table h i).buffer (table h i).groups ≡ true
  -- every call is answered by the conditions on the rows, its inputs and the lent lengths; so 7 is never an answer
  pub answered : (h : History) → answers (empty h) h.calls ≡ answers_rows (lengths h) no_rows h.calls
  pub never_7 : (h : History) → any_of (refuses 7) (answers (empty h) h.calls) ≡ false
  -- tables with the same rows, after any two ways of working, have the same group count, used bytes and answers to every question: sums, mill figures,
  -- finished lines, totals and whether a kept value is known to be exact
  pub same-groups : (h h' : History) (i j : ℕ) → SameRows (rows h i) (rows h' j) → (table h i).groups ≡ (table h' j).groups
  pub same_bytes : (h h' : History) (i j : ℕ) → SameRows (rows h i) (rows h' j) → used (table h i) ≡ used (table h' j)
  pub same_answer : (h h' : History) (i j : ℕ) (q : Question) → SameRows (rows h i) (rows h' j) → ask_table (table h i) q ≡ ask_table (table h' j) q
  -- and these are the answers that document 01 fixes for the rows
  pub fixed_answer : (h : History) (i : ℕ) (q : Question) → ask_table (table h i) q ≡ ask_rows (rows h i) q
  -- the totals of a table, its records counted and their row counts added up, are the number of distinct sections of its rows and the number of its rows
  pub counted : (h : History) (i : ℕ) → table_totals (sections_in (table h i)) ≡ rows_totals (rows h i)
  -- a section without a row has no record
  pub absent : (h : History) (i k : ℕ) → length (section_bits k (rows h i)) ≡ 0 → find k (sections_in (table h i)) ≡ none
  -- a section with a row has one: its count is the number of its rows, its finest power is theirs, and its kept value lies within
  -- (the number of its rows) × (its largest row in size) × 2^-80 of their exact sum
  pub present : (h : History) (i k : ℕ) → 0 < length (section_bits k (rows h i))
      → (s : Section) × (find k (sections_in (table h i)) ≡ some s)
      × (s.count ≡ length (section_bits k (rows h i)))
      × (s.finest ≡ finest_of (section_bits k (rows h i)))
      × (nat_abs (kept s -ℤ exact_sum (section_bits k (rows h i))) * 2 ^ 80 ≤ length (section_bits k (rows h i)) * largest (section_bits k (rows h i)))
  -- a section that is answered exact has a kept value equal to the exact sum of its rows
  pub exact_kept : (h : History) (i k : ℕ) → ask_table (table h i) (exactness k) ≡ exactness_is (accepted true)
      → (s : Section) × (find k (sections_in (table h i)) ≡ some s) × (kept s ≡ exact_sum (section_bits k (rows h i)))
