-- Every call can be made by a contract: the exported one, with what its outcome says returned and written out.
use Prim.Native.Nat.{ℕ}
use mathlib.Core.Path.{◌≡◌, refl, subst}
use mathlib.Core.List.{List, [], ◌∷◌}
use lib.IntN.{ℤ, pos}
use lib.ListN.{length, replicate, length-replicate}
use contract.Lifetimes.{Lfts}
use borrow.Fn.Kinds.{Dens, ended_of, res_t}
use denote.Triple.Clauses.{AtExit}
use denote.Bor.{Bor}
use denote.MutBor.{MutBor}
use Rattle.columns.specs.Columns.{width}
use Rattle.table.specs.Calls.{cleared, merge_outcome, merge_leaves}
use Rattle.limbs.specs.Side.{side_number}
use Rattle.finish.specs.declared.RoundedSum.{RoundedSum}
use Rattle.finish.specs.Finish.{sum_outcome, figure_outcome, line_outcome}
use Rattle.finish.specs.Exact.{exactness_outcome}
use Rattle.finish.specs.declared.FinishedLine.{FinishedLine}
use Rattle.totals.specs.declared.TableTotals.{TableTotals}
use Rattle.totals.specs.Totals.{totals_outcome}
use Rattle.exports.specs.Width.{kind_of_width, add_of_width, add_of_width_leaves}
use Rattle.exports.proofs.Widths.{width_back}
use Rattle.exports.specs.Calls.{returns_count, returns_zero, returns_flag, writes, double_bits}
use Rattle.checkpoint.specs.Calls.{save_outcome, save_leaves, load_outcome, load_leaves}
use Rattle.history.specs.Calls.{sum, figure, line, exactness, totals, Call, add, merge, ask, save, load}
use Rattle.history.specs.Run.{State, Answer, file_on}
use Rattle.exports.proofs.girth_load.Reads as girth_load_reads
use Rattle.exports.proofs.girth_load.Kinds as girth_load_kinds
use Rattle.conformance.specs.Called.{Called, by_girth_add, by_girth_merge, by_girth_sum, by_girth_figure, by_girth_line, by_girth_exact, by_girth_totals, by_girth_save, by_girth_load}
use Rattle.conformance.specs.Worked.{Worked, done, next}

-- a reference to x, wherever it stands, and one through which x may be changed
abbrev pub ref : {X : Type 0} → X → Bor X
ref x = record { ref_ptr = (0, 0); now = x }

abbrev pub mut_ref : {X : Type 0} → X → MutBor X
mut_ref x = record { ref_ptr = (0, 0); ghost_name = 0; now = x }

-- a load of any file f over any bytes b can be made by the contract
pub load-possible : (f b : List ℕ)
    → (κs : Lfts 2) × (a : Dens κs girth_load_kinds.ps) × (z : (res_t girth_load_kinds.r κs).Denot) × (e : AtExit (ended_of 2 girth_load_kinds.ps girth_load_kinds.r) κs)
    × (f ≡ a.0.now) × (b ≡ a.1.0.now) × girth_load_reads.Learnt κs a z e
load-possible f b = (([], ([], tt)), (ref f, (mut_ref b, tt)), returns_count (load_outcome f (length b)), (ref f, (mut_ref (load_leaves f b), tt)), refl, refl, (refl, refl))

-- and so can each call
pub one-possible : (s : State) (c : Call) → (x : Answer) × (s' : State) × Called s c x s'
one-possible s (ask i (sum k)) =
    let b = (s.tables i).buffer in let g = (s.tables i).groups in let o = sum_outcome b g k in (
      _,
      _,
      by_girth_sum i ([], ([], ([], tt))) (ref b, (g, (k, (mut_ref 0, (mut_ref (pos 0), tt))))) (returns_zero o)
          (ref b, (g, (k, (mut_ref (writes 0 (λ (x : RoundedSum). double_bits x.sum) o), (mut_ref (writes (pos 0) (λ (x : RoundedSum). side_number x.side) o), tt))))) (refl, refl) (refl, (refl, refl)),
    )
one-possible s (ask i (figure k)) =
    let b = (s.tables i).buffer in let g = (s.tables i).groups in
    (_, _, by_girth_figure i ([], ([], tt)) (ref b, (g, (k, (mut_ref (pos 0), tt)))) (returns_zero (figure_outcome b g k)) (ref b, (g, (k, (mut_ref (writes (pos 0) (λ (z : ℤ). z) (figure_outcome b g k)), tt)))) (refl, refl) (refl, refl))
one-possible s (ask i (line k)) =
    let b = (s.tables i).buffer in let g = (s.tables i).groups in let o = line_outcome b g k in (
      _,
      _,
      by_girth_line i ([], ([], ([], ([], ([], tt))))) (ref b, (g, (k, (mut_ref 0, (mut_ref 0, (mut_ref (pos 0), (mut_ref (pos 0), tt))))))) (returns_zero o)
          (ref b, (g, (k, (mut_ref (writes 0 (λ (l : FinishedLine). l.count) o), (mut_ref (writes 0 (λ (l : FinishedLine). double_bits l.sum) o), (mut_ref (writes (pos 0) (λ (l : FinishedLine). l.figure) o), (mut_ref (writes (pos 0) (λ (l : FinishedLine). side_number l.side) o), tt))))))) (refl, refl) (refl, (refl, (refl, (refl, refl)))),
    )
one-possible s (ask i (exactness k)) =
    let b = (s.tables i).buffer in let g = (s.tables i).groups in
    (_, _, by_girth_exact i ([], tt) (ref b, (g, (k, tt))) (returns_flag (exactness_outcome b g k)) (ref b, (g, (k, tt))) (refl, refl) refl)
one-possible s (ask i totals) =
    let b = (s.tables i).buffer in let g = (s.tables i).groups in let o = totals_outcome b g in (
      _,
      _,
      by_girth_totals i ([], ([], ([], tt))) (ref b, (g, (mut_ref 0, (mut_ref 0, tt)))) (returns_zero o)
          (ref b, (g, (mut_ref (writes 0 (λ (t : TableTotals). t.groups) o), (mut_ref (writes 0 (λ (t : TableTotals). t.count) o), tt)))) (refl, refl) (refl, (refl, refl)),
    )
one-possible s (merge i j d) =
    let b = (s.tables i).buffer in let g = (s.tables i).groups in let b' = (s.tables j).buffer in let g' = (s.tables j).groups in
    (_, _, by_girth_merge i j d ([], ([], tt)) (mut_ref b, (g, (ref b', (g', tt)))) (returns_count (merge_outcome b g b' g')) (mut_ref (merge_leaves b g b' g'), (g, (ref b', (g', tt)))) (refl, refl) (refl, refl) (refl, refl))
one-possible s (add i kind ks vs p n) =
    let b = (s.tables i).buffer in let g = (s.tables i).groups in let w : List ℕ = replicate {A = ℕ} n 0 in
    let told = width kind in
    subst (λ (m : ℕ). (x : Answer) × (s' : State) × Called s (add i kind ks vs p m) x s') (length-replicate n 0) (
      _,
      _,
      by_girth_add i kind ([], ([], ([], ([], tt)))) (mut_ref b, (g, (ref ks, (ref vs, (told, (mut_ref w, tt)))))) (returns_count (add_of_width (kind_of_width told) b g ks vs (length w)))
          (mut_ref (add_of_width_leaves (kind_of_width told) b g ks vs (length w)), (g, (ref ks, (ref vs, (told, (mut_ref (cleared w), tt)))))) p (width_back kind) (refl, refl) (refl, (refl, refl)),
    )
one-possible s (save i n) =
    let b = (s.tables i).buffer in let g = (s.tables i).groups in let out : List ℕ = replicate {A = ℕ} n 0 in
    subst (λ (m : ℕ). (x : Answer) × (s' : State) × Called s (save i m) x s') (length-replicate n 0) (
      _,
      _,
      by_girth_save i ([], ([], tt)) (ref b, (g, (mut_ref out, tt))) (returns_count (save_outcome b g (length out))) (ref b, (g, (mut_ref (save_leaves b g out), tt))) (refl, refl) (refl, refl),
    )
one-possible s (load i n) = let l = load-possible (file_on s.shelf n) (s.tables i).buffer in (_, _, by_girth_load i n l.0 l.1 l.2 l.3 l.4 l.5 l.6)

pub all_possible : (s : State) (cs : List Call) → (xs : List Answer) × (s' : State) × Worked s cs xs s'
all_possible s [] = ([], s, done)
all_possible s (c ∷ cs) = let p = one-possible s c in let w = all_possible p.1 cs in (p.0 ∷ w.0, w.1, next p.2 w.2)
