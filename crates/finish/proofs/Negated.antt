-- Negating a sum negates its figure, refusals included. The idea: what a mill figure is in plain words fixes it, and holds of both numbers negated.
use mathlib.Core.Path.{◌≡◌, refl, sym, ap, ◌∙◌, subst}
use mathlib.Core.Bool.{Bool, true, false, cond}
use mathlib.Core.List.{List}
use mathlib.Core.Option.{Option, none, some}
use Prim.Native.Nat.{ℕ, ◌*◌, ◌^◌}
use native.Mathlib.Nat.{lt_irrefl, lt_trans, le_antisymm}
use lib.Dec.{T}
use lib.IntN.{ℤ, pos, neg_ℤ, ◌*ℤ◌, ℤ_discrete}
use lib.Ieee.{Float, nan, inf, fin, neg, binary64, up, down, fits}
use lib.Ieee.Scale.{finite}
use Rattle.integers.proofs.Laws.{nat_abs-neg, negℤ_*ℤ}
use Rattle.refusal.specs.Outcome.{Outcome, accepted, refused}
use Rattle.refusal.proofs.Outcomes.{accepted≢refused}
use Rattle.level.proofs.Descent.{neg-signed}
use Rattle.record.specs.Sound.{sound}
use Rattle.record.specs.Section.{Section, kept, sections, find}
use Rattle.limbs.specs.Nearest.{nearest_by}
use Rattle.finish.specs.Sum.{too_large}
use Rattle.finish.specs.Side.{double_value}
use Rattle.finish.specs.Figure.{away_from_zero, NearestAway, units_apart, mill_figure, beyond}
use Rattle.finish.specs.Finish.{RoundedSum, double_for, sum_for, figure_for, line_for, sum_of, figure_of, line_of, sum_outcome, figure_outcome, line_outcome}
use Rattle.finish.specs.Negated.{negated_outcome, sum_value, line_figure}
use Rattle.finish.specs.Steps.{figure_by}
use Rattle.finish.proofs.Sums.{double_fits, double_finite}
use Rattle.finish.proofs.Halves.{nearest-negated, nearest-figure}
use Rattle.finish.proofs.Outcomes.{figure_by_lem}

-- ---- of a double

-- negated as IEEE 754 does
pub figure-negated : (x : Float) → mill_figure (neg x) ≡ neg_ℤ (mill_figure x)
unfolding mill_figure neg
figure-negated nan = refl
figure-negated (inf s) = refl
figure-negated (fin s m e) = sym (neg-signed s (nearest_by away_from_zero (m * up e * 100) (down e)))

-- the plain words fix the number
pub nearest_unique : (u : ℕ) (v y z : ℤ) → NearestAway u v y → NearestAway u v z → y ≡ z
nearest_unique u v y z g h = by (ℤ_discrete y z)
  where
    same : units_apart u v y ≡ units_apart u v z
    same = le_antisymm (g.near z) (h.near y)

    by : Dec (y ≡ z) → y ≡ z
    by (yes e) = e
    by (no d) = absurd (lt_irrefl _ (lt_trans (g.away z (λ e. d (sym e)) same) (h.away y d (sym same))))

-- two doubles of opposite values; both zeros have the value 0
pub opposite_figure : (x y : Float) → T (fits binary64 x) → T (finite x) → T (fits binary64 y) → T (finite y) → double_value y ≡ neg_ℤ (double_value x) → mill_figure y ≡ neg_ℤ (mill_figure x)
opposite_figure x y fx hx fy hy e =
    let v = double_value x *ℤ pos 100 in
    let w : double_value y *ℤ pos 100 ≡ neg_ℤ v = ap (λ (z : ℤ). z *ℤ pos 100) e ∙ negℤ_*ℤ (double_value x) (pos 100) in
    nearest_unique (2 ^ 1074) (neg_ℤ v) (mill_figure y) (neg_ℤ (mill_figure x))
    (subst (λ (z : ℤ). NearestAway (2 ^ 1074) z (mill_figure y)) w (nearest-figure y fy hy))
    (nearest-negated (2 ^ 1074) v (mill_figure x) (nearest-figure x fx hx))

-- ---- of what calls answer

-- in range, or refused with 15, on either side of 0
beyond-negated : (z : ℤ) → cond (beyond (neg_ℤ z)) (refused 15) (accepted (neg_ℤ z)) ≡ negated_outcome (cond (beyond z) (refused 15) (accepted z))
unfolding beyond
beyond-negated z = rw (nat_abs-neg z) (by (beyond z))
  where
    by : (b : Bool) → cond b (refused 15) (accepted (neg_ℤ z)) ≡ negated_outcome (cond b (refused 15) (accepted z))
    by true = refl
    by false = refl

-- a sum that is refused or a finite double, and the figure by it
abbrev GivesFigure : Outcome RoundedSum → Outcome ℤ → Type 0
GivesFigure (accepted x) z = T (fits binary64 x.sum) × T (finite x.sum) × (z ≡ figure_by (accepted x))
GivesFigure (refused n) z = z ≡ refused n

figure_by_opposite : (a b : Outcome RoundedSum) (z w : Outcome ℤ) → GivesFigure a z → GivesFigure b w → sum_value b ≡ negated_outcome (sum_value a) → w ≡ negated_outcome z
figure_by_opposite (accepted x) (accepted y) z w f g e =
    let v : double_value y.sum ≡ neg_ℤ (double_value x.sum) = cc in
    g.2 ∙ ap (λ (n : ℤ). cond (beyond n) (refused 15) (accepted n)) (opposite_figure x.sum y.sum f.0 f.1 g.0 g.1 v) ∙ beyond-negated (mill_figure x.sum)
    ∙ ap negated_outcome (sym f.2)
figure_by_opposite (accepted x) (refused n) z w f g e = absurd (accepted≢refused e)
figure_by_opposite (refused m) (accepted y) z w f g e = absurd (accepted≢refused (sym e))
figure_by_opposite (refused m) (refused n) z w f g e = g ∙ e ∙ ap negated_outcome (sym f)

section_figure : (o : Option Section) → GivesFigure (sum_of o) (figure_of o)
section_figure none = refl
section_figure (some s) = by (too_large (kept s)) (double_finite (kept s)) (figure_by_lem s)
  where
    by : (b : Bool) → (b ≡ false → T (finite (double_for s))) → {z : Outcome ℤ} → z ≡ figure_by (cond b (refused 14) (accepted (sum_for s))) → GivesFigure (cond b (refused 14) (accepted (sum_for s))) z
    by true f e = e
    by false f e = (double_fits (kept s), f refl, e)

call-figure : (s : List ℕ) (g k : ℕ) → GivesFigure (sum_outcome s g k) (figure_outcome s g k)
call-figure s g k = by (sound s g) (find k (sections s g))
  where
    by : (b : Bool) (o : Option Section) → GivesFigure (cond b (sum_of o) (refused 7)) (cond b (figure_of o) (refused 7))
    by true o = section_figure o
    by false o = refl

-- a figure's call, for any two sections of any two tables lent
pub opposite_figures : (s t : List ℕ) (g h j k : ℕ) → sum_value (sum_outcome t h k) ≡ negated_outcome (sum_value (sum_outcome s g j)) → figure_outcome t h k ≡ negated_outcome (figure_outcome s g j)
opposite_figures s t g h j k = figure_by_opposite (sum_outcome s g j) (sum_outcome t h k) (figure_outcome s g j) (figure_outcome t h k) (call-figure s g j) (call-figure t h k)

-- a line has the figure, or the refusal, that the figure's call answers
pub line-figure : (s : List ℕ) (g k : ℕ) → line_figure (line_outcome s g k) ≡ figure_outcome s g k
line-figure s g k = by (sound s g) (find k (sections s g))
  where
    by : (b : Bool) (o : Option Section) → line_figure (cond b (line_of o) (refused 7)) ≡ cond b (figure_of o) (refused 7)
    by false o = refl
    by true none = refl
    by true (some t) = at (too_large (kept t)) (beyond (figure_for t))
      where
        at : (l b : Bool) → line_figure (cond l (refused 14) (cond b (refused 15) (accepted (line_for t)))) ≡ cond l (refused 14) (cond b (refused 15) (accepted (figure_for t)))
        at true b = refl
        at false true = refl
        at false false = refl

pub opposite_lines : (s t : List ℕ) (g h j k : ℕ) → sum_value (sum_outcome t h k) ≡ negated_outcome (sum_value (sum_outcome s g j)) → line_figure (line_outcome t h k) ≡ negated_outcome (line_figure (line_outcome s g j))
opposite_lines s t g h j k e = line-figure t h k ∙ opposite_figures s t g h j k e ∙ ap negated_outcome (sym (line-figure s g j))
