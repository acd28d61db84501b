-- A question about a sound table is answered by its rows; and never with 7.
use Prim.Native.Nat.{ℕ}
use mathlib.Core.Path.{◌≡◌, refl, sym, ap, ◌∙◌}
use mathlib.Core.Bool.{true, false}
use mathlib.Core.List.{List, []}
use mathlib.Core.Option.{Option}
use Rattle.refusal.specs.Outcome.{Outcome, accepted, is_refusal}
use Rattle.record.specs.Sound.{sound}
use Rattle.record.specs.Section.{Section, sections}
use Rattle.finish.specs.Finish.{sum_for, figure_for, line_for, sum_grounds, figure_grounds, finishing, sum_of, figure_of, line_of}
use Rattle.finish.specs.Exact.{answered_exact, exactness_of}
use Rattle.finish.proofs.Outcomes.{finished_not}
use Rattle.columns.specs.Columns.{Row}
use Rattle.totals.specs.declared.TableTotals.{TableTotals}
use Rattle.totals.specs.Totals.{table_totals}
use Rattle.history.specs.Rows.{SameRows, section_bits}
use Rattle.history.specs.Canonical.{section_if, canonical}
use Rattle.history.specs.Calls.{Question, sum, figure, line, exactness, totals}
use Rattle.history.specs.Run.{Store, sum_is, figure_is, line_is, exactness_is, totals_are, ask_table, ask_rows, refuses}
use Rattle.history.proofs.Canonical.{find-canonical}
use Rattle.history.proofs.Order.{section_same, canonical-same}
use Rattle.history.proofs.Totals.{totals-canonical}

-- ---- in a sound table with the sections of some rows
module _ (t : Store) (rows : List Row) (h : sound t.buffer t.groups ≡ true) (e : sections t.buffer t.groups ≡ canonical rows) where
  finishing_is : {A : Type 0} (F : Option Section → Outcome A) (k : ℕ) → finishing F t.buffer t.groups k ≡ F (section_if k (section_bits k rows))
  finishing_is F k = rw (h, e, find-canonical k rows)

  pub ask_is : (q : Question) → ask_table t q ≡ ask_rows rows q
  unfolding ask_table ask_rows
  ask_is (sum k) = ap sum_is (finishing_is sum_of k)
  ask_is (figure k) = ap figure_is (finishing_is figure_of k)
  ask_is (line k) = ap line_is (finishing_is line_of k)
  ask_is (exactness k) = ap exactness_is (finishing_is exactness_of k)
  ask_is totals = ap totals_are (rw (h, e, totals-canonical rows))

-- ---- the same rows answer alike
pub ask-same : (q : Question) (xs ys : List Row) → SameRows xs ys → ask_rows xs q ≡ ask_rows ys q
unfolding ask_rows
ask-same (sum k) xs ys h = ap (λ o. sum_is (sum_of o)) (section_same k xs ys h)
ask-same (figure k) xs ys h = ap (λ o. figure_is (figure_of o)) (section_same k xs ys h)
ask-same (line k) xs ys h = ap (λ o. line_is (line_of o)) (section_same k xs ys h)
ask-same (exactness k) xs ys h = ap (λ o. exactness_is (exactness_of o)) (section_same k xs ys h)
ask-same totals xs ys h = ap (λ (t : TableTotals). totals_are (accepted t)) (sym (totals-canonical xs) ∙ ap table_totals (canonical-same xs ys h) ∙ totals-canonical ys)

-- ---- no answer is 7
pub ask_not_7 : (rows : List Row) (q : Question) → refuses 7 (ask_rows rows q) ≡ false
unfolding ask_rows is_refusal
ask_not_7 rows (sum k) = finished_not 7 sum_grounds sum_for refl (λ t. refl) (section_if k (section_bits k rows))
ask_not_7 rows (figure k) = finished_not 7 figure_grounds figure_for refl (λ t. refl) (section_if k (section_bits k rows))
ask_not_7 rows (line k) = finished_not 7 figure_grounds line_for refl (λ t. refl) (section_if k (section_bits k rows))
ask_not_7 rows (exactness k) = finished_not 7 (λ (t : Section). []) answered_exact refl (λ t. refl) (section_if k (section_bits k rows))
ask_not_7 rows totals = refl
