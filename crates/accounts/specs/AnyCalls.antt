-- Lists of calls with removals, run on bytes.
use Rattle.std.specs.Prelude.{ℕ, List, [], ◌∷◌, T}
use Rattle.std.proofs.Math.Pow.{are_bytes}
use Rattle.columns.specs.declared.Kind.{Kind}
use Rattle.remove.specs.Calls.{remove_outcome, remove_leaves}
use Rattle.history.specs.Run.{Store, State, set_table, after, Answer, groups_are}
use Rattle.history.specs.Older.{OlderCall, step_older, answer_older}

-- a call of a way of working with removals: one that removes nothing (a call of demand 3, or a load of a file as an older version wrote it), or a removal from table i
-- of two columns with values of some kind, of which the keys hold bytes as every slice does, with the length of the lent work buffer, which is no table
pub data AnyCall : Type 0 where
  other : OlderCall → AnyCall
  remove : (i : ℕ) (kind : Kind) (keys values : List ℕ) → T (are_bytes keys) → (work_len : ℕ) → AnyCall

-- what a removal from the table t answers
abbrev pub remove_answer : Kind → Store → List ℕ → List ℕ → ℕ → Answer
remove_answer kind t ks vs work_len = groups_are (remove_outcome kind t.buffer t.groups ks vs work_len)

-- the table t after a removal
abbrev pub after_remove : Kind → Store → List ℕ → List ℕ → ℕ → Store
after_remove kind t ks vs work_len =
    after (remove_outcome kind t.buffer t.groups ks vs work_len) (remove_leaves kind t.buffer t.groups ks vs work_len) t.groups

-- the state after one call
unfoldable pub step_any : State → AnyCall → State
step_any s (other c) = step_older s c
step_any s (remove i kind ks vs b work_len) = set_table i (after_remove kind (s.tables i) ks vs work_len) s

-- and after a list of them
unfoldable pub state_after_any : State → List AnyCall → State
state_after_any s [] = s
state_after_any s (e ∷ es) = state_after_any (step_any s e) es

-- what one answers
unfoldable pub answer_any : State → AnyCall → Answer
answer_any s (other c) = answer_older s c
answer_any s (remove i kind ks vs b work_len) = remove_answer kind (s.tables i) ks vs work_len

-- what a list of them answers, one by one
unfoldable pub answers_any : State → List AnyCall → List Answer
answers_any s [] = []
answers_any s (e ∷ es) = answer_any s e ∷ answers_any (step_any s e) es
