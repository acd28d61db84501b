-- Lists of calls run on bytes: each call gets a table's bytes and group count as the last call on it left them. And what each call answers.
use Rattle.std.specs.Prelude.{ℕ, Bool, List, [], ◌∷◌, length, get_or, ℤ}
use Rattle.refusal.specs.Outcome.{Outcome, accepted, refused, is_refusal}
use Rattle.finish.specs.declared.FinishedLine.{FinishedLine}
use Rattle.finish.specs.declared.RoundedSum.{RoundedSum}
use Rattle.finish.specs.Finish.{sum_of, figure_of, line_of, sum_outcome, figure_outcome, line_outcome}
use Rattle.finish.specs.Exact.{exactness_of, exactness_outcome}
use Rattle.columns.specs.declared.Kind.{Kind}
use Rattle.columns.specs.Columns.{Row}
use Rattle.table.specs.Calls.{add_outcome, add_leaves, merge_outcome, merge_leaves}
use Rattle.totals.specs.declared.TableTotals.{TableTotals}
use Rattle.totals.specs.Totals.{totals_outcome}
use Rattle.checkpoint.specs.Saved.{saved_table}
use Rattle.checkpoint.specs.Calls.{save_outcome, load_outcome, load_leaves}
use Rattle.history.specs.Rows.{section_bits, rows_totals}
use Rattle.history.specs.Canonical.{section_if}
use Rattle.history.specs.Calls.{Question, sum, figure, line, exactness, totals, Call, add, merge, ask, save, load, Ledger, update, shelved, add_rows_outcome, merge_rows_outcome, save_rows_outcome, load_rows_outcome, step_rows}

-- a table as it is lent: the bytes of its buffer, and its group count
pub record Store : Type 0 where
  pub buffer : List ℕ
  pub groups : ℕ

-- the state of a way of working: its tables, and the shelf of its files of saved tables, in the order of saving
pub record State : Type 0 where
  pub tables : ℕ → Store
  pub shelf : List (List ℕ)

-- no table has groups, and no file is on the shelf; initial i are the bytes in table i's buffer
abbrev pub no_groups : (ℕ → List ℕ) → State
no_groups initial = record { tables = λ i. record { buffer = initial i; groups = 0 }; shelf = [] }

-- the state with t as table i
abbrev pub set_table : ℕ → Store → State → State
set_table i t s = record { tables = update i t s.tables; shelf = s.shelf }

-- the table after a call that leaves the bytes s: an accepted one gives the new group count
abbrev pub after : Outcome ℕ → List ℕ → ℕ → Store
after (accepted n) s g = record { buffer = s; groups = n }
after (refused n) s g = record { buffer = s; groups = g }

-- the table t after an add
abbrev pub after_add : Kind → Store → List ℕ → List ℕ → ℕ → Store
after_add kind t ks vs work_len = after (add_outcome kind t.buffer t.groups ks vs work_len) (add_leaves kind t.buffer t.groups ks vs work_len) t.groups

-- the table t after a merge of u into it
abbrev pub after_merge : Store → Store → Store
after_merge t u =
    after (merge_outcome t.buffer t.groups u.buffer u.groups) (merge_leaves t.buffer t.groups u.buffer u.groups) t.groups

-- the table t after a load of the file f into it
abbrev pub after_load : Store → List ℕ → Store
after_load t f = after (load_outcome f (length t.buffer)) (load_leaves f t.buffer) t.groups

-- the shelf after a save of the table t
abbrev pub shelf_after : Store → ℕ → List (List ℕ) → List (List ℕ)
shelf_after t out_len fs = shelved (save_outcome t.buffer t.groups out_len) (saved_table t.buffer t.groups) fs

-- the file with number n, and an empty one for a number that is not on the shelf
abbrev pub file_on : List (List ℕ) → ℕ → List ℕ
file_on fs n = get_or fs n []

-- the state after one call; a question changes nothing, a save no table
unfoldable pub step : State → Call → State
step s (add i kind ks vs b work_len) = set_table i (after_add kind (s.tables i) ks vs work_len) s
step s (merge i j d) = set_table i (after_merge (s.tables i) (s.tables j)) s
step s (ask i q) = s
step s (save i out_len) = record { tables = s.tables; shelf = shelf_after (s.tables i) out_len s.shelf }
step s (load i n) = set_table i (after_load (s.tables i) (file_on s.shelf n)) s

-- the state after a list of calls
unfoldable pub state_after : State → List Call → State
state_after s [] = s
state_after s (c ∷ cs) = state_after (step s c) cs

-- ---- answers

-- what a call answers: the new group count, a sum with its side, a mill figure, a finished line, whether a kept value is known to be exact, a table's totals or
-- the length of a file
pub data Answer : Type 0 where
  groups_are : Outcome ℕ → Answer
  sum_is : Outcome RoundedSum → Answer
  figure_is : Outcome ℤ → Answer
  line_is : Outcome FinishedLine → Answer
  exactness_is : Outcome Bool → Answer
  totals_are : Outcome TableTotals → Answer
  length_is : Outcome ℕ → Answer

-- what a question about a table answers
unfoldable pub ask_table : Store → Question → Answer
ask_table t (sum k) = sum_is (sum_outcome t.buffer t.groups k)
ask_table t (figure k) = figure_is (figure_outcome t.buffer t.groups k)
ask_table t (line k) = line_is (line_outcome t.buffer t.groups k)
ask_table t (exactness k) = exactness_is (exactness_outcome t.buffer t.groups k)
ask_table t totals = totals_are (totals_outcome t.buffer t.groups)

-- what it is to answer by the table's rows alone
unfoldable pub ask_rows : List Row → Question → Answer
ask_rows rows (sum k) = sum_is (sum_of (section_if k (section_bits k rows)))
ask_rows rows (figure k) = figure_is (figure_of (section_if k (section_bits k rows)))
ask_rows rows (line k) = line_is (line_of (section_if k (section_bits k rows)))
ask_rows rows (exactness k) = exactness_is (exactness_of (section_if k (section_bits k rows)))
ask_rows rows totals = totals_are (accepted (rows_totals rows))

-- what a call in this state answers
unfoldable pub answer : State → Call → Answer
answer s (add i kind ks vs b work_len) = groups_are (add_outcome kind (s.tables i).buffer (s.tables i).groups ks vs work_len)
answer s (merge i j d) = groups_are (merge_outcome (s.tables i).buffer (s.tables i).groups (s.tables j).buffer (s.tables j).groups)
answer s (ask i q) = ask_table (s.tables i) q
answer s (save i out_len) = length_is (save_outcome (s.tables i).buffer (s.tables i).groups out_len)
answer s (load i n) = groups_are (load_outcome (file_on s.shelf n) (length (s.tables i).buffer))

-- what a list of calls answers, one by one
unfoldable pub answers : State → List Call → List Answer
answers s [] = []
answers s (c ∷ cs) = answer s c ∷ answers (step s c) cs

-- what a call is to answer by the ledger alone
unfoldable pub answer_rows : (ℕ → ℕ) → Ledger → Call → Answer
answer_rows len l (add i kind ks vs b work_len) = groups_are (add_rows_outcome kind (len i) (l.rows i) ks vs work_len)
answer_rows len l (merge i j d) = groups_are (merge_rows_outcome (len i) (l.rows i) (l.rows j))
answer_rows len l (ask i q) = ask_rows (l.rows i) q
answer_rows len l (save i out_len) = length_is (save_rows_outcome (l.rows i) out_len)
answer_rows len l (load i n) = groups_are (load_rows_outcome (len i) l.saved_rows n)

-- what a list of calls is to answer by the ledger alone
unfoldable pub answers_rows : (ℕ → ℕ) → Ledger → List Call → List Answer
answers_rows len l [] = []
answers_rows len l (c ∷ cs) = answer_rows len l c ∷ answers_rows len (step_rows len l c) cs

-- the answer is refusal n
abbrev pub refuses : ℕ → Answer → Bool
refuses n (groups_are o) = is_refusal n o
refuses n (sum_is o) = is_refusal n o
refuses n (figure_is o) = is_refusal n o
refuses n (line_is o) = is_refusal n o
refuses n (exactness_is o) = is_refusal n o
refuses n (totals_are o) = is_refusal n o
refuses n (length_is o) = is_refusal n o
