-- Card 7 over ways of working in which tables that an older version saved are loaded too: their files have 0 for every finest power. A table's rows are counted as
-- with files of this version, and what demand 3 says of them holds; a section that such a file brought keeps 0 for its finest power.
use Rattle.std.specs.Prelude.{ℕ, ◌*◌, ◌^◌, ◌≤◌, ◌<◌, ◌≡◌, Bool, true, false, cond, ◌||◌, List, [], ◌∷◌, map, ltb, length, get_or, ◌-ℤ◌, nat_abs}
use Rattle.std.proofs.Math.Option.{none, some}
use Rattle.refusal.specs.Outcome.{accepted, refused}
use Rattle.level.specs.Level.{exact_sum}
use Rattle.level.specs.Finest.{finest_of}
use Rattle.columns.specs.Columns.{Row}
use Rattle.record.specs.Sound.{sound}
use Rattle.record.specs.Section.{Section, sections, section_bytes, written, find, kept}
use Rattle.totals.specs.Totals.{table_totals}
use Rattle.checkpoint.specs.Saved.{group_count}
use Rattle.checkpoint.specs.Calls.{load_outcome}
use Rattle.lists.specs.Lists.{any_of}
use Rattle.history.specs.Rows.{SameRows, section_bits, rows_totals, largest}
use Rattle.history.specs.Canonical.{canonical}
use Rattle.history.specs.Calls.{Question, exactness, Call, add, merge, ask, save, load, merge_rows_outcome, save_rows_outcome, load_rows_outcome, Ledger, no_rows, update, replaced, shelved, step_rows}
use Rattle.history.specs.Run.{Store, State, no_groups, set_table, after_load, file_on, step, state_after, Answer, groups_are, sum_is, figure_is, line_is, exactness_is, totals_are, length_is, ask_table, answer, answers, answers_rows, refuses}
use Rattle.history.specs.Demand3.{History, lengths, rows, used, sections_in}

-- the section with z for its finest power
abbrev pub with_finest : ℕ → Section → Section
with_finest z s = record { key = s.key; count = s.count; top = s.top; finest = z; high = s.high; middle = s.middle; low = s.low }

-- the file f of a saved table as an older version wrote it: its records with 0 for their finest powers, and its trailer
abbrev pub older_file : List ℕ → List ℕ
older_file f = written (map (with_finest 0) (sections f (group_count f))) f

-- a call of such a way of working: one of demand 3's, or a load into table i of file n of the shelf as an older version wrote it
pub data OlderCall : Type 0 where
  ordinary : Call → OlderCall
  load-older : (i n : ℕ) → OlderCall

-- the state after one
unfoldable pub step_older : State → OlderCall → State
step_older s (ordinary c) = step s c
step_older s (load-older i n) = set_table i (after_load (s.tables i) (older_file (file_on s.shelf n))) s

-- and after a list of them
unfoldable pub state_after_older : State → List OlderCall → State
state_after_older s [] = s
state_after_older s (e ∷ es) = state_after_older (step_older s e) es

-- what one answers
unfoldable pub answer_older : State → OlderCall → Answer
answer_older s (ordinary c) = answer s c
answer_older s (load-older i n) = groups_are (load_outcome (older_file (file_on s.shelf n)) (length (s.tables i).buffer))

-- what a list of them answers, one by one
unfoldable pub answers_older : State → List OlderCall → List Answer
answers_older s [] = []
answers_older s (e ∷ es) = answer_older s e ∷ answers_older (step_older s e) es

-- a way of working with such loads: the bytes in each table's buffer at the start, and the calls
pub record OlderHistory : Type 0 where
  pub initial : ℕ → List ℕ
  pub calls : List OlderCall

-- the call, with the file as this version wrote it
abbrev pub renewed : OlderCall → Call
renewed (ordinary c) = c
renewed (load-older i n) = load i n

-- the same way of working with all files as this version wrote them; a table's rows are counted there
abbrev pub renewed_history : OlderHistory → History
renewed_history h = record { initial = h.initial; calls = map renewed h.calls }

-- table i after it
abbrev pub older_table : OlderHistory → ℕ → Store
older_table h i = (state_after_older (no_groups h.initial) h.calls).tables i

-- and its rows
abbrev pub older_rows : OlderHistory → ℕ → List Row
older_rows h i = rows (renewed_history h) i

-- what it answers, call by call
abbrev pub older_answers : OlderHistory → List Answer
older_answers h = answers_older (no_groups h.initial) h.calls

-- ---- the sections that an older file brought, counted from the calls beside the rows

-- of each table, and of each saved one in the order of saving: whether an older file brought rows of section k
pub record Origins : Type 0 where
  pub older : ℕ → ℕ → Bool
  pub saved_older : List (ℕ → Bool)

-- of no section
abbrev pub none_older : ℕ → Bool
none_older k = false

-- no table has such a section, and none was saved
abbrev pub no_origins : Origins
no_origins = record { older = λ i. none_older; saved_older = [] }

-- the origins with these sections for table i
abbrev pub set_older : ℕ → (ℕ → Bool) → Origins → Origins
set_older i f o = record { older = update i f o.older; saved_older = o.saved_older }

-- a file with these rows brings section k: one of them has its number
abbrev pub brings : List Row → ℕ → Bool
brings rs k = ltb 0 (length (section_bits k rs))

-- the origins after one call, where l is the ledger before it and len i the length of table i's buffer
unfoldable pub step_origins : (ℕ → ℕ) → Ledger → Origins → OlderCall → Origins
step_origins len l o (ordinary (add i kind ks vs b work_len)) = o
step_origins len l o (ordinary (merge i j d)) = set_older i (replaced (merge_rows_outcome (len i) (l.rows i) (l.rows j)) (o.older i) (λ k. o.older i k || o.older j k)) o
step_origins len l o (ordinary (ask i q)) = o
step_origins len l o (ordinary (save i out_len)) = record { older = o.older; saved_older = shelved (save_rows_outcome (l.rows i) out_len) (o.older i) o.saved_older }
step_origins len l o (ordinary (load i n)) = set_older i (replaced (load_rows_outcome (len i) l.saved_rows n) (o.older i) (get_or o.saved_older n none_older)) o
step_origins len l o (load-older i n) = set_older i (replaced (load_rows_outcome (len i) l.saved_rows n) (o.older i) (brings (get_or l.saved_rows n []))) o

-- and after a list of them
unfoldable pub origins_after : (ℕ → ℕ) → Ledger → Origins → List OlderCall → Origins
origins_after len l o [] = o
origins_after len l o (c ∷ cs) = origins_after len (step_rows len l (renewed c)) (step_origins len l o c) cs

-- whether an older file brought rows of section k of table i
abbrev pub from_older : OlderHistory → ℕ → ℕ → Bool
from_older h i k = (origins_after (lengths (renewed_history h)) no_rows no_origins h.calls).older i k

-- a section with 0 for its finest power, where f has its number
abbrev pub faded : (ℕ → Bool) → Section → Section
faded f s = cond (f s.key) (with_finest 0 s) s

-- ---- answers and bytes, but for finest powers

-- an answer, with exact and not known taken for one; a refusal stays
abbrev pub but_exactness : Answer → Answer
but_exactness (groups_are o) = groups_are o
but_exactness (sum_is o) = sum_is o
but_exactness (figure_is o) = figure_is o
but_exactness (line_is o) = line_is o
but_exactness (exactness_is (accepted b)) = exactness_is (accepted false)
but_exactness (exactness_is (refused n)) = exactness_is (refused n)
but_exactness (totals_are o) = totals_are o
but_exactness (length_is o) = length_is o

-- the used bytes of a table with 0 for every finest power
abbrev pub used_but_finest : Store → List ℕ
used_but_finest t = section_bytes (map (with_finest 0) (sections_in t))

-- the claims
pub record OlderFiles : Type 0 where
  -- without a load of an older file it is the way of working of demand 3, so that sameness is whole
  pub without_older : (s : State) (cs : List Call) → (state_after_older s (map ordinary cs) ≡ state_after s cs) × (answers_older s (map ordinary cs) ≡ answers s cs)
  -- every table is sound; its used bytes are those of the sections that document 01 fixes for its rows, with 0 for the finest power of those that an older file brought
  pub older-sound : (h : OlderHistory) (i : ℕ) → sound (older_table h i).buffer (older_table h i).groups ≡ true
  pub older-used : (h : OlderHistory) (i : ℕ) → used (older_table h i) ≡ section_bytes (map (faded (from_older h i)) (canonical (older_rows h i)))
  pub older-groups : (h : OlderHistory) (i : ℕ) → (older_table h i).groups ≡ length (canonical (older_rows h i))
  -- every call is answered by the conditions on the rows, its inputs and the lent lengths, but for exact and not known; 7 is never an answer
  pub older-answered : (h : OlderHistory) → map but_exactness (older_answers h) ≡ map but_exactness (answers_rows (lengths (renewed_history h)) no_rows (map renewed h.calls))
  pub older_never_7 : (h : OlderHistory) → any_of (refuses 7) (older_answers h) ≡ false
  -- tables with the same rows have the same used bytes and answers, but for the finest powers and what they decide
  pub older-bytes : (h h' : OlderHistory) (i j : ℕ) → SameRows (older_rows h i) (older_rows h' j) → used_but_finest (older_table h i) ≡ used_but_finest (older_table h' j)
  pub older-answer : (h h' : OlderHistory) (i j : ℕ) (q : Question) → SameRows (older_rows h i) (older_rows h' j)
      → but_exactness (ask_table (older_table h i) q) ≡ but_exactness (ask_table (older_table h' j) q)
  -- and where older files brought the same sections, as where they brought none, all of these
  pub older-same : (h h' : OlderHistory) (i j : ℕ) → SameRows (older_rows h i) (older_rows h' j) → ((k : ℕ) → from_older h i k ≡ from_older h' j k)
      → (used (older_table h i) ≡ used (older_table h' j)) × ((q : Question) → ask_table (older_table h i) q ≡ ask_table (older_table h' j) q)
  -- the totals, the sections without a row and those with one are as in demand 3, but for the finest power
  pub older-counted : (h : OlderHistory) (i : ℕ) → table_totals (sections_in (older_table h i)) ≡ rows_totals (older_rows h i)
  pub older-absent : (h : OlderHistory) (i k : ℕ) → length (section_bits k (older_rows h i)) ≡ 0 → find k (sections_in (older_table h i)) ≡ none
  pub older-present : (h : OlderHistory) (i k : ℕ) → 0 < length (section_bits k (older_rows h i))
      → (s : Section) × (find k (sections_in (older_table h i)) ≡ some s)
      × (s.count ≡ length (section_bits k (older_rows h i)))
      × (s.finest ≡ cond (from_older h i k) 0 (finest_of (section_bits k (older_rows h i))))
      × (nat_abs (kept s -ℤ exact_sum (section_bits k (older_rows h i))) * 2 ^ 80 ≤ length (section_bits k (older_rows h i)) * largest (section_bits k (older_rows h i)))
  -- a section that is answered exact has a kept value equal to the exact sum of its rows
  pub older_exact : (h : OlderHistory) (i k : ℕ) → ask_table (older_table h i) (exactness k) ≡ exactness_is (accepted true)
      → (s : Section) × (find k (sections_in (older_table h i)) ≡ some s) × (kept s ≡ exact_sum (section_bits k (older_rows h i)))
