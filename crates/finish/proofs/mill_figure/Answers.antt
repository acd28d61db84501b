use mathlib.Core.Path.{◌≡◌, sym, ap, ap₂, ◌∙◌}
use mathlib.Core.Bool.{Bool, cond}
use Prim.Native.Nat.{ℕ, ◌+◌, ◌-◌, ◌*◌, ◌^◌}
use native.Mathlib.Nat.{lt_of_lt_of_le, le_of_eq}
use denote.Floats.{passes}
use lib.IntN.{ℤ}
use lib.Ieee.{binary64, to_bits}
use Rattle.refusal.specs.Outcome.{accepted, refused}
use Rattle.level.specs.Double.{exponent_field, significand, signed}
use Rattle.finish.specs.Figure.{away_from_zero, mill_figure, beyond}
use Rattle.limbs.specs.Nearest.{nearest_by}
use Rattle.finish.proofs.Fraction.{not_nan, near-figure, far_figure}
use Rattle.finish.proofs.mill_figure.Goals as goal

pub float_to_bits-bits : goal.float_to_bits-bits
float_to_bits-bits c = not_nan c.args.sum (passes _ c.requires.finite)

pub returns-then-exponent-gt1074 : goal.returns-then-exponent-gt1074
returns-then-exponent-gt1074 c =
    far_figure c.args.sum (passes _ c.well_formed.0.1) (passes _ c.requires.finite) (lt_of_lt_of_le c.if-exponent-gt1074.true (le_of_eq c.exponent_field-exponent.ensures))

pub returns : goal.returns
returns c =
    let n = c.nearest_hundredths in
    let p = c.digits_below_one in
    let d = c.significand in
    let g = c.is_negative-negative in
    let f = c.exponent_field-exponent in
    let b = to_bits binary64 c.args.sum in
    let size : n.result ≡ nearest_by away_from_zero (significand b * 100) (2 ^ p.result) =
    n.ensures ∙ ap (λ (m : ℕ). nearest_by away_from_zero (m * 100) (2 ^ p.result)) d.ensures in
    let below_one : p.result + (exponent_field b - 1) ≡ 1074 = ap (λ (x : ℕ). p.result + (x - 1)) (sym f.ensures) ∙ p.ensures.with_exponent in
    let e : signed g.result n.result ≡ mill_figure c.args.sum = ap₂ (λ (t : Bool) (m : ℕ). signed t m) g.ensures size ∙ near-figure c.args.sum (passes _ c.well_formed.0.1) (passes _ c.requires.finite) p.result below_one in
    c.figure_of_size.ensures ∙ ap (λ (z : ℤ). cond (beyond z) (refused 15) (accepted z)) e
