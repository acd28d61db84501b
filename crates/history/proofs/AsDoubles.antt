-- Adds of any kind of value do what adds of the same rows in doubles do, call by call and so in every list of calls.
use Prim.Native.Nat.{ℕ}
use mathlib.Core.Path.{◌≡◌, refl, ap, ap₂, ◌∙◌}
use mathlib.Core.List.{List, [], ◌∷◌, ◌++◌}
use lib.ListN.{length}
use Rattle.refusal.specs.Outcome.{Outcome}
use Rattle.columns.specs.declared.Kind.{Kind}
use Rattle.columns.specs.declared.Kind.TheVariants.{Double}
use Rattle.columns.specs.Columns.{Row, rows_of, as_doubles}
use Rattle.table.proofs.AsDoubles.{left_alike, add_alike, leaves_alike}
use Rattle.history.specs.Rows.{section_numbers}
use Rattle.history.specs.Calls.{Call, add, merge, ask, save, load, Ledger, rows_grounds, add_rows_grounds, add_rows_outcome, set_rows, extended, step_rows, ledger_after}
use Rattle.history.specs.Run.{State, set_table, after, step, state_after, Answer, groups_are, answer, answers}
use Rattle.history.specs.AsDoubles.{call_as_doubles, calls_as_doubles, SameAsDoubles}

-- ---- one call

answer_alike : (s : State) (c : Call) → answer s (call_as_doubles c) ≡ answer s c
unfolding call_as_doubles answer
answer_alike s (add i kind ks vs b work_len) = ap groups_are (add_alike kind (s.tables i).buffer (s.tables i).groups ks vs work_len)
answer_alike s (merge i j d) = refl
answer_alike s (ask i q) = refl
answer_alike s (save i out_len) = refl
answer_alike s (load i n) = refl

step_alike : (s : State) (c : Call) → step s (call_as_doubles c) ≡ step s c
unfolding call_as_doubles step
step_alike s (add i kind ks vs b work_len) =
    let t = s.tables i in
    ap₂ (λ (o : Outcome ℕ) (l : List ℕ). set_table i (after o l t.groups) s) (add_alike kind t.buffer t.groups ks vs work_len) (leaves_alike kind t.buffer t.groups ks vs work_len)
step_alike s (merge i j d) = refl
step_alike s (ask i q) = refl
step_alike s (save i out_len) = refl
step_alike s (load i n) = refl

extended_alike : (kind : Kind) (len : ℕ) (rows : List Row) (ks vs : List ℕ) (work_len : ℕ)
    → extended (add_rows_outcome Double len rows ks (as_doubles kind vs) work_len) rows (rows_of Double ks (as_doubles kind vs)) ≡ extended (add_rows_outcome kind len rows ks vs work_len) rows (rows_of kind ks vs)
unfolding add_rows_grounds
extended_alike kind len rows ks vs work_len =
    left_alike kind ks vs len work_len (λ (r : List Row). rows_grounds len (rows ++ r)) (λ (r : List Row). length (section_numbers (rows ++ r))) (λ o r. extended o rows r) (λ n r r'. refl)

ledger_alike : (len : ℕ → ℕ) (l : Ledger) (c : Call) → step_rows len l (call_as_doubles c) ≡ step_rows len l c
unfolding call_as_doubles step_rows
ledger_alike len l (add i kind ks vs b work_len) = ap (λ (rs : List Row). set_rows i rs l) (extended_alike kind (len i) (l.rows i) ks vs work_len)
ledger_alike len l (merge i j d) = refl
ledger_alike len l (ask i q) = refl
ledger_alike len l (save i out_len) = refl
ledger_alike len l (load i n) = refl

-- ---- a list of calls

answers_alike : (s : State) (cs : List Call) → answers s (calls_as_doubles cs) ≡ answers s cs
unfolding answers
answers_alike s [] = refl
answers_alike s (c ∷ cs) =
    ap₂ (λ (a : Answer) (r : List Answer). a ∷ r) (answer_alike s c) (ap (λ (t : State). answers t (calls_as_doubles cs)) (step_alike s c) ∙ answers_alike (step s c) cs)

state_alike : (s : State) (cs : List Call) → state_after s (calls_as_doubles cs) ≡ state_after s cs
unfolding state_after
state_alike s [] = refl
state_alike s (c ∷ cs) = ap (λ (t : State). state_after t (calls_as_doubles cs)) (step_alike s c) ∙ state_alike (step s c) cs

rows_alike : (len : ℕ → ℕ) (l : Ledger) (cs : List Call) → ledger_after len l (calls_as_doubles cs) ≡ ledger_after len l cs
unfolding ledger_after
rows_alike len l [] = refl
rows_alike len l (c ∷ cs) = ap (λ (k : Ledger). ledger_after len k (calls_as_doubles cs)) (ledger_alike len l c) ∙ rows_alike len (step_rows len l c) cs

pub same_as_doubles : SameAsDoubles
same_as_doubles = record { same-answers = answers_alike; same_state = state_alike; same_ledger = rows_alike }
