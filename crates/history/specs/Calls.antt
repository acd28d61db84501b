-- Lists of calls, and the rows of every table and of every saved one, read off the calls alone.
use Rattle.std.specs.Prelude.{ℕ, ◌*◌, Bool, not, cond, List, [], ◌∷◌, ◌++◌, T, ltb, leb, eqb, length, get_or}
use Rattle.std.proofs.Math.Pow.{are_bytes}
use Rattle.refusal.specs.Outcome.{Outcome, accepted, refused, Ground, ground, outcome}
use Rattle.output.specs.Output.{output_ground}
use Rattle.columns.specs.declared.Kind.{Kind}
use Rattle.columns.specs.Columns.{Row, rows_of}
use Rattle.record.specs.Layout.{capacity}
use Rattle.table.specs.Calls.{most_rows, lent_grounds}
use Rattle.checkpoint.specs.Saved.{saved_length}
use Rattle.checkpoint.specs.Calls.{most_file_groups}
use Rattle.lists.specs.Lists.{any_of}
use Rattle.history.specs.Rows.{section_bits, section_numbers}

-- what is asked of a table: the sum, the mill figure or the finished line of a section, whether its kept value is known to be exact, or the table's totals
pub data Question : Type 0 where
  sum figure line exactness : (key : ℕ) → Question
  totals : Question

-- a call on tables named by numbers: an add to table i of two columns with values of some kind, of which the keys hold bytes as every slice does, with the
-- length of the lent work buffer, which is no table; a merge of table j into a different table i; a question about table i; a save of table i to an output of
-- out_len bytes, which is no table; a load of file n of the shelf into table i
pub data Call : Type 0 where
  add : (i : ℕ) (kind : Kind) (keys values : List ℕ) → T (are_bytes keys) → (work_len : ℕ) → Call
  merge : (i j : ℕ) → T (not (eqb i j)) → Call
  ask : (i : ℕ) → Question → Call
  save : (i out_len : ℕ) → Call
  load : (i n : ℕ) → Call

-- ---- whether a call is accepted, read off the rows, its own inputs and the length of the table's buffer

-- a section has more rows than its count can say
unfoldable pub too_many_rows : List Row → Bool
too_many_rows rows = any_of (λ k. ltb most_rows (length (section_bits k rows))) (section_numbers rows)

-- more distinct section numbers than a buffer of len bytes has room for
unfoldable pub too_many_keys : ℕ → List Row → Bool
too_many_keys len rows = ltb (capacity len) (length (section_numbers rows))

-- the conditions on the rows that a table of len bytes is to hold: 11 and 12
abbrev pub rows_grounds : ℕ → List Row → List Ground
rows_grounds len rows = ground 11 (too_many_rows rows) ∷ ground 12 (too_many_keys len rows) ∷ []

-- document 01's conditions of an add to a table with these rows, in their order
unfoldable pub add_rows_grounds : Kind → ℕ → List Row → List ℕ → List ℕ → ℕ → List Ground
add_rows_grounds kind len rows ks vs work_len = lent_grounds kind len ks vs work_len ++ rows_grounds len (rows ++ rows_of kind ks vs)

-- an accepted add gives the number of distinct section numbers
abbrev pub add_rows_outcome : Kind → ℕ → List Row → List ℕ → List ℕ → ℕ → Outcome ℕ
add_rows_outcome kind len rows ks vs work_len = outcome (add_rows_grounds kind len rows ks vs work_len) (length (section_numbers (rows ++ rows_of kind ks vs)))

-- document 01's conditions of a merge of a table with the rows `others` into one with these rows, in their order
unfoldable pub merge_rows_grounds : ℕ → List Row → List Row → List Ground
merge_rows_grounds len rows others = rows_grounds len (rows ++ others)

-- an accepted merge gives the number of distinct section numbers
abbrev pub merge_rows_outcome : ℕ → List Row → List Row → Outcome ℕ
merge_rows_outcome len rows others = outcome (merge_rows_grounds len rows others) (length (section_numbers (rows ++ others)))

-- those of Card 4's conditions of a save that can hold of a table with these rows and an output of out_len bytes, in their order
unfoldable pub save_rows_grounds : List Row → ℕ → List Ground
save_rows_grounds rows out_len =
    ground 18 (ltb most_file_groups (length (section_numbers rows))) ∷ output_ground out_len (saved_length (length (section_numbers rows))) ∷ []

-- an accepted save gives the file's length
abbrev pub save_rows_outcome : List Row → ℕ → Outcome ℕ
save_rows_outcome rows out_len = outcome (save_rows_grounds rows out_len) (saved_length (length (section_numbers rows)))

-- those of Card 4's conditions of a load that can hold of file n of the shelf and a table of len bytes, in their order, where the saved tables had these rows; a number
-- that is not on the shelf reads an empty file
unfoldable pub load_rows_grounds : ℕ → List (List Row) → ℕ → List Ground
load_rows_grounds len rss n = ground 2 (leb (length rss) n) ∷ output_ground len (64 * length (section_numbers (get_or rss n []))) ∷ []

-- an accepted load gives the number of distinct section numbers
abbrev pub load_rows_outcome : ℕ → List (List Row) → ℕ → Outcome ℕ
load_rows_outcome len rss n = outcome (load_rows_grounds len rss n) (length (section_numbers (get_or rss n [])))

-- ---- the ledger: what is counted from the calls alone; len i is the length of table i's buffer

-- the rows of each table, and those of each saved one, in the order of saving
pub record Ledger : Type 0 where
  pub rows : ℕ → List Row
  pub saved_rows : List (List Row)

-- no table has rows, and none was saved
abbrev pub no_rows : Ledger
no_rows = record { rows = λ i. []; saved_rows = [] }

-- a family of things by number, with thing i changed to x
abbrev pub update : {A : Type 0} → ℕ → A → (ℕ → A) → ℕ → A
update i x s j = cond (eqb j i) x (s j)

-- the ledger with these rows for table i
abbrev pub set_rows : ℕ → List Row → Ledger → Ledger
set_rows i rows l = record { rows = update i rows l.rows; saved_rows = l.saved_rows }

-- a table's rows after a call with new ones: an accepted call adds all of them, a refused one none
abbrev pub extended : Outcome ℕ → List Row → List Row → List Row
extended (accepted g) rows new = rows ++ new
extended (refused n) rows new = rows

-- what a load makes of x, where it has y to give: an accepted one gives y, a refused one leaves x
abbrev pub replaced : {A : Type 0} → Outcome ℕ → A → A → A
replaced (accepted g) x y = y
replaced (refused n) x y = x

-- the shelf after a save: an accepted one puts x at its end, so that x has the number of things before it
abbrev pub shelved : {A : Type 0} → Outcome ℕ → A → List A → List A
shelved (accepted n) x xs = xs ++ x ∷ []
shelved (refused n) x xs = xs

-- the ledger after one call
unfoldable pub step_rows : (ℕ → ℕ) → Ledger → Call → Ledger
step_rows len l (add i kind ks vs b work_len) = set_rows i (extended (add_rows_outcome kind (len i) (l.rows i) ks vs work_len) (l.rows i) (rows_of kind ks vs)) l
step_rows len l (merge i j d) = set_rows i (extended (merge_rows_outcome (len i) (l.rows i) (l.rows j)) (l.rows i) (l.rows j)) l
step_rows len l (ask i q) = l
step_rows len l (save i out_len) = record { rows = l.rows; saved_rows = shelved (save_rows_outcome (l.rows i) out_len) (l.rows i) l.saved_rows }
step_rows len l (load i n) = set_rows i (replaced (load_rows_outcome (len i) l.saved_rows n) (l.rows i) (get_or l.saved_rows n [])) l

-- the ledger after a list of calls
unfoldable pub ledger_after : (ℕ → ℕ) → Ledger → List Call → Ledger
ledger_after len l [] = l
ledger_after len l (c ∷ cs) = ledger_after len (step_rows len l c) cs
