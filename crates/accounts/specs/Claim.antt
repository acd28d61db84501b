-- Card 9: one claim about single removals and about all ways of working with them.
use Rattle.std.specs.Prelude.{ℕ, ◌-◌, ◌*◌, ◌≤◌, ◌≡◌, true, false, List, ◌++◌, map, length, take, drop, replicate, ◌-ℤ◌, nat_abs}
use Rattle.std.proofs.Math.Option.{some}
use Rattle.std.proofs.Math.Pow.{are_bytes}
use Rattle.refusal.specs.Outcome.{Outcome, accepted, outcome}
use Rattle.lists.specs.Lists.{any_of}
use Rattle.level.specs.Level.{unit, exact_sum}
use Rattle.columns.specs.declared.Kind.{Kind}
use Rattle.columns.specs.declared.Kind.TheVariants.{Double}
use Rattle.columns.specs.Columns.{Row, rows_of, as_doubles}
use Rattle.record.specs.Sound.{sound}
use Rattle.record.specs.Section.{Section, sections, section_bytes, find, kept}
use Rattle.table.specs.Calls.{lent_grounds, add_outcome, add_leaves, merge_outcome}
use Rattle.totals.specs.Totals.{table_totals}
use Rattle.checkpoint.specs.Calls.{save_outcome}
use Rattle.remove.specs.Remaining.{raises_top, lowers_finest}
use Rattle.remove.specs.Calls.{patch_sections, remove_sections, remove_outcome, remove_leaves}
use Rattle.history.specs.Rows.{SameRows, section_bits, section_numbers, rows_totals}
use Rattle.history.specs.Calls.{exactness, totals, add_rows_outcome, merge_rows_outcome, save_rows_outcome}
use Rattle.history.specs.Run.{Store, State, no_groups, totals_are, exactness_is, refuses, ask_table, answers}
use Rattle.history.specs.Demand3.{History, empty, rows, table, sections_in}
use Rattle.history.specs.Older.{ordinary, state_after_older, answers_older, OlderHistory, older_rows}
use Rattle.accounts.specs.Holds.{HoldsBits}
use Rattle.accounts.specs.AnyCalls.{AnyCall, other, state_after_any, answers_any}
use Rattle.accounts.specs.Accounts.{take_out, lacking, patch_rows, Account, no_accounts, accounts_after}

-- a way of working with removals: the bytes in each table's buffer at the start, and the calls
pub record Way : Type 0 where
  pub initial : ℕ → List ℕ
  pub calls : List AnyCall

-- the state after it
abbrev pub state_of : Way → State
state_of w = state_after_any (no_groups w.initial) w.calls

-- table i after it
abbrev pub table_of : Way → ℕ → Store
table_of w i = (state_of w).tables i

-- table i's account after it
abbrev pub account_of : Way → ℕ → Account
account_of w i = (accounts_after (no_groups w.initial) no_accounts w.calls).of_table i

-- the bits of section k's remaining rows in table i
abbrev pub remaining_bits : Way → ℕ → ℕ → List ℕ
remaining_bits w i k = section_bits k (account_of w i).account_rows

-- table i is accounted for
abbrev pub Accounted : Way → ℕ → Type 0
Accounted w i = (account_of w i).accounted ≡ true

-- the outcome of a removal from a table with these rows that has all the patch's rows, by what is lent: 8, 9 and 10, or the number of distinct section numbers that remain
abbrev pub remove_rows_outcome : Kind → ℕ → List Row → List ℕ → List ℕ → ℕ → Outcome ℕ
remove_rows_outcome kind len rows ks vs work_len = outcome (lent_grounds kind len ks vs work_len) (length (section_numbers (take_out (rows_of kind ks vs) rows)))

-- the way of working of calls that remove nothing
abbrev pub removing_nothing : OlderHistory → Way
removing_nothing h = record { initial = h.initial; calls = map other h.calls }

-- demand 3's way of working, as one in which older files may be loaded
abbrev pub no_older_files : History → OlderHistory
no_older_files h = record { initial = h.initial; calls = map ordinary h.calls }

pub record Card9 : Type 0 where
  -- ---- a single removal
  -- an accepted one leaves a sound table that holds the remaining sections; the vacated bytes are zero, and those after them as they were
  pub leaves-remaining : (kind : Kind) (s : List ℕ) (g : ℕ) (ks vs : List ℕ) (work_len n : ℕ) → are_bytes s ≡ true → remove_outcome kind s g ks vs work_len ≡ accepted n
      → (sound (remove_leaves kind s g ks vs work_len) n ≡ true)
      × (sections (remove_leaves kind s g ks vs work_len) n ≡ remove_sections kind s g ks vs)
      × (remove_leaves kind s g ks vs work_len ≡ section_bytes (remove_sections kind s g ks vs) ++ (replicate (64 * (g - n)) 0 ++ drop (64 * g) s))
  -- right after an accepted add of the same columns that raised no held section's top and lowered no held finest power it is accepted, and the former count and used bytes are back
  pub undone : (kind : Kind) (s : List ℕ) (g : ℕ) (ks vs : List ℕ) (work_len n : ℕ) → are_bytes s ≡ true → are_bytes ks ≡ true → add_outcome kind s g ks vs work_len ≡ accepted n
      → raises_top (sections s g) (patch_sections kind ks vs) ≡ false → lowers_finest (sections s g) (patch_sections kind ks vs) ≡ false
      → (remove_outcome kind (add_leaves kind s g ks vs work_len) n ks vs work_len ≡ accepted g)
      × (take (64 * g) (remove_leaves kind (add_leaves kind s g ks vs work_len) n ks vs work_len) ≡ take (64 * g) s)
  -- with its values in doubles a removal answers the same and leaves the same
  pub removed_alike : (kind : Kind) (s : List ℕ) (g : ℕ) (ks vs : List ℕ) (work_len : ℕ)
      → (remove_outcome Double s g ks (as_doubles kind vs) work_len ≡ remove_outcome kind s g ks vs work_len)
      × (remove_leaves Double s g ks (as_doubles kind vs) work_len ≡ remove_leaves kind s g ks vs work_len)
  -- ---- every way of working, whatever is removed
  -- every table is sound, and no call answers 7
  pub any_sound : (w : Way) (i : ℕ) → sound (table_of w i).buffer (table_of w i).groups ≡ true
  pub any_never_7 : (w : Way) → any_of (refuses 7) (answers_any (no_groups w.initial) w.calls) ≡ false
  -- a table's row total is the number of the rows brought less that of the rows removed
  pub totals_subtract : (w : Way) (i : ℕ) → ((account_of w i).removed ≤ (account_of w i).brought)
      × (ask_table (table_of w i) totals ≡ totals_are (accepted (record { groups = (table_of w i).groups; count = (account_of w i).brought - (account_of w i).removed })))
  -- ---- tables that are accounted for
  -- as all are under Card 9's premise: each removal takes a patch that was added before, once, and likewise in every table merged into it. The remaining rows are then those of the
  -- patches that were not removed
  pub premise : (w : Way) (i : ℕ) → (account_of w i).patchwise ≡ true → Accounted w i × SameRows (account_of w i).account_rows (patch_rows (account_of w i).patches)
  -- of each section with a row such a table holds the number and, at the held top, the totals of its remaining rows, and it holds no other section
  pub held-remaining : (w : Way) (i k : ℕ) → Accounted w i → HoldsBits k (remaining_bits w i k) (find k (sections_in (table_of w i)))
  -- its kept value lies within half a lowest unit for each remaining row of their exact sum
  pub half_units : (w : Way) (i k : ℕ) → Accounted w i → (s : Section) → find k (sections_in (table_of w i)) ≡ some s
      → nat_abs (kept s -ℤ exact_sum (remaining_bits w i k)) * 2 ≤ length (remaining_bits w i k) * unit (s.top - 2)
  -- and is that sum where the held top is 2 or less, and where the section is answered exact
  pub exact_low : (w : Way) (i k : ℕ) → Accounted w i → (s : Section) → find k (sections_in (table_of w i)) ≡ some s → s.top ≤ 2 → kept s ≡ exact_sum (remaining_bits w i k)
  pub exact_remaining : (w : Way) (i k : ℕ) → Accounted w i → ask_table (table_of w i) (exactness k) ≡ exactness_is (accepted true)
      → (s : Section) × (find k (sections_in (table_of w i)) ≡ some s) × (kept s ≡ exact_sum (remaining_bits w i k))
  -- its totals are the number of distinct sections and the number of the remaining rows
  pub counted-remaining : (w : Way) (i : ℕ) → Accounted w i → table_totals (sections_in (table_of w i)) ≡ rows_totals (account_of w i).account_rows
  -- adds to it, merges of two such tables, saves of it, and removals of rows that it has, repeats counted, are answered by the rows, the inputs and the lent lengths:
  -- such a removal is refused by 8, 9 and 10 only
  pub answered-add : (w : Way) (i : ℕ) (kind : Kind) (ks vs : List ℕ) (work_len : ℕ) → Accounted w i
      → add_outcome kind (table_of w i).buffer (table_of w i).groups ks vs work_len ≡ add_rows_outcome kind (length (w.initial i)) (account_of w i).account_rows ks vs work_len
  pub answered-merge : (w : Way) (i j : ℕ) → Accounted w i → Accounted w j
      → merge_outcome (table_of w i).buffer (table_of w i).groups (table_of w j).buffer (table_of w j).groups
      ≡ merge_rows_outcome (length (w.initial i)) (account_of w i).account_rows (account_of w j).account_rows
  pub answered-save : (w : Way) (i out_len : ℕ) → Accounted w i → save_outcome (table_of w i).buffer (table_of w i).groups out_len ≡ save_rows_outcome (account_of w i).account_rows out_len
  pub answered-remove : (w : Way) (i : ℕ) (kind : Kind) (ks vs : List ℕ) (work_len : ℕ) → Accounted w i → lacking (rows_of kind ks vs) (account_of w i).account_rows ≡ false
      → remove_outcome kind (table_of w i).buffer (table_of w i).groups ks vs work_len ≡ remove_rows_outcome kind (length (w.initial i)) (account_of w i).account_rows ks vs work_len
  -- ---- ways that remove nothing
  -- they are those of Card 7, in which older files may be loaded: in the state, in the answers and in every table's rows, all of them accounted for
  pub nothing-removed : (h : OlderHistory)
      → (state_of (removing_nothing h) ≡ state_after_older (no_groups h.initial) h.calls)
      × (answers_any (no_groups h.initial) (map other h.calls) ≡ answers_older (no_groups h.initial) h.calls)
  pub nothing-removed-rows : (h : OlderHistory) (i : ℕ)
      → ((account_of (removing_nothing h) i).account_rows ≡ older_rows h i) × ((account_of (removing_nothing h) i).removed ≡ 0) × Accounted (removing_nothing h) i
  -- and without older files those of which demand 3 speaks
  pub as_demand3 : (h : History)
      → ((i : ℕ) → table_of (removing_nothing (no_older_files h)) i ≡ table h i)
      × (answers_any (empty h) (removing_nothing (no_older_files h)).calls ≡ answers (empty h) h.calls)
      × ((i : ℕ) → (account_of (removing_nothing (no_older_files h)) i).account_rows ≡ rows h i)
