-- Calls that step one after the other have the answers and the tables of which demand 3 speaks.
use Prim.Native.Nat.{ℕ}
use mathlib.Core.Path.{◌≡◌, refl, sym, ap, ap₂, subst, ◌∙◌}
use mathlib.Core.Bool.{true}
use mathlib.Core.List.{List, [], ◌∷◌}
use mathlib.Core.Option.{some}
use lib.IntN.{ℤ}
use Rattle.refusal.specs.Outcome.{accepted}
use Rattle.level.specs.Level.{exact_sum}
use Rattle.record.specs.Section.{Section, find, kept}
use Rattle.history.specs.Rows.{SameRows, section_bits}
use Rattle.history.specs.Calls.{Question, exactness, totals, Call, ask}
use Rattle.history.specs.Run.{Store, State, Answer, exactness_is, state_after, answer, answers, ask_table, ask_rows}
use Rattle.history.specs.AsDoubles.{calls_as_doubles}
use Rattle.history.specs.Demand3.{History, empty, rows, table, used, sections_in}
use Rattle.history.proofs.Demand.{demand3}
use Rattle.history.proofs.AsDoubles.{same_as_doubles}
use Rattle.conformance.specs.Worked.{Worked, done, next, CarriedOut, WorkedIs}
use Rattle.conformance.proofs.Steps.{steps}
use Rattle.conformance.proofs.Possible.{all_possible}

-- a step that answers x and leaves s', before calls that answer f and leave g of the state they get
pub one_more : (f : State → List Answer) (g : State → State) {y x : Answer} {xs : List Answer} {t s' s'' : State} → (y ≡ x) × (t ≡ s') → (f s' ≡ xs) × (g s' ≡ s'')
    → (y ∷ f t ≡ x ∷ xs) × (g t ≡ s'')
one_more f g q r = (ap₂ ◌∷◌ q.0 (ap f q.1 ∙ r.0), ap g q.1 ∙ r.1)

worked : (s : State) (cs : List Call) (xs : List Answer) (s' : State) → Worked s cs xs s' → (answers s cs ≡ xs) × (state_after s cs ≡ s')
unfolding answers state_after
worked s [] xs s' done = (refl, refl)
worked s (c ∷ cs) [] s'' x'' = elim x'' [ ]
worked s (c ∷ cs) (x ∷ xs) s'' (next {s' = s'} p w) = one_more (λ t. answers t cs) (λ t. state_after t cs) (steps s c x s' p) (worked s' cs xs s'' w)

table_is : (h : History) (xs : List Answer) (s : State) → CarriedOut h xs s → (i : ℕ) → s.tables i ≡ table h i
table_is h xs s w i = ap (λ (t : State). t.tables i) (sym (worked (empty h) h.calls xs s w).1)

same-table : (h h' : History) (xs xs' : List Answer) (s s' : State) → CarriedOut h xs s → CarriedOut h' xs' s' → (i j : ℕ) → SameRows (rows h i) (rows h' j)
    → ((s.tables i).groups ≡ (s'.tables j).groups) × (used (s.tables i) ≡ used (s'.tables j)) × ((q : Question) → ask_table (s.tables i) q ≡ ask_table (s'.tables j) q)
same-table h h' xs xs' s s' w w' i j e = (
  ap (λ (t : Store). t.groups) (table_is h xs s w i) ∙ demand3.same-groups h h' i j e ∙ sym (ap (λ (t : Store). t.groups) (table_is h' xs' s' w' j)),
  ap used (table_is h xs s w i) ∙ demand3.same_bytes h h' i j e ∙ sym (ap used (table_is h' xs' s' w' j)),
  λ q. ap (λ (t : Store). ask_table t q) (table_is h xs s w i) ∙ demand3.same_answer h h' i j q e ∙ sym (ap (λ (t : Store). ask_table t q) (table_is h' xs' s' w' j)),
)

-- what an answer of exact tells of table t it tells of u, which is t: section k has the kept value n
pub told_of : {t u : Store} → u ≡ t → (k : ℕ) (n : ℤ)
    → (ask_table t (exactness k) ≡ exactness_is (accepted true) → (r : Section) × (find k (sections_in t) ≡ some r) × (kept r ≡ n))
    → ask_table u (exactness k) ≡ exactness_is (accepted true) → (r : Section) × (find k (sections_in u) ≡ some r) × (kept r ≡ n)
told_of e k n =
    subst (λ (t : Store). ask_table t (exactness k) ≡ exactness_is (accepted true) → (r : Section) × (find k (sections_in t) ≡ some r) × (kept r ≡ n)) (sym e)

pub worked_is : WorkedIs
unfolding answer ask_rows
worked_is = record {
  called_is = steps;
  as_listed = worked;
  answers_are = λ h xs s w. sym (worked (empty h) h.calls xs s w).0 ∙ demand3.answered h;
  tables_are = table_is;
  same_tables = same-table;
  same_questions = λ h h' xs xs' s s' w w' i j e q x x' t t' c c'.
      sym (steps s (ask i q) x t c).0 ∙ (same-table h h' xs xs' s s' w w' i j e).2 q ∙ (steps s' (ask j q) x' t' c').0;
  totals-counted = λ h xs s w i x t c. sym (steps s (ask i totals) x t c).0 ∙ ap (λ (u : Store). ask_table u totals) (table_is h xs s w i) ∙ demand3.fixed_answer h i totals;
  exact_told = λ h xs s w i k t c. told_of (table_is h xs s w i) k (exact_sum (section_bits k (rows h i))) (demand3.exact_kept h i k) (steps s (ask i (exactness k)) (exactness_is (accepted true)) t c).0;
  same_in_doubles = λ s cs xs xs' s' s'' w d.
      let p = worked s cs xs s' w in
      let q = worked s (calls_as_doubles cs) xs' s'' d in
      (sym p.0 ∙ sym (same_as_doubles.same-answers s cs) ∙ q.0, sym p.1 ∙ sym (same_as_doubles.same_state s cs) ∙ q.1);
  possible = all_possible;
  buffer-cleared = λ κs a z e l. l.1.1;
  girth_buffer_cleared = λ κs a z e l. l.1.1;
}
