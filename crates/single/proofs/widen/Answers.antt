use Prim.Native.Nat.{ℕ, ◌+◌, ◌*◌, ◌/◌, ◌%◌, ◌^◌, ◌<◌}
use mathlib.Core.Path.{◌≡◌, refl, sym, ap, ap₂, ◌∙◌}
use native.Mathlib.Omega.{arith}
use Rattle.single.specs.Single.{single_negative, single_field, single_fraction, widened}
use Rattle.single.specs.Steps.{unsigned_bits}
use Rattle.single.proofs.Pattern.{sign_bit, sign_moved, widened-low, widened_mid, widened-infinite, widened_nan}
use borrow.Author.Rules.{rules}
use Rattle.single.proofs.widen.Goals as goal
use Rattle.single.proofs.widen.Goals.{After-single_fraction-fraction, Else-field-lt255}

-- the place in the code where field and fraction were read
module _ (c : After-single_fraction-fraction) where
  abbrev bits : ℕ
  bits = c.args.bits

  in-range : bits < 2 ^ 32
  in-range = search rules

  field-here : c.single_field-field.result ≡ single_field bits
  field-here = c.single_field-field.ensures

  fraction-here : c.single_fraction-fraction.result ≡ single_fraction bits
  fraction-here = c.single_fraction-fraction.ensures

  -- the sign's bit and the rest
  with-sign : (r w : ℕ) → r ≡ w → widened bits ≡ sign_bit (single_negative bits) + w → bits / 2 ^ 31 * 2 ^ 63 % 2 ^ 64 + r ≡ widened bits
  with-sign r w e h = ap₂ (λ (x y : ℕ). x + y) (sign_moved bits in-range) e ∙ sym h

-- past both tests the field is the highest
all_ones : (c : Else-field-lt255) → single_field (bits c.before.before) ≡ 255
all_ones c = let e = field-here c.before.before in omega arith

pub overflow_add-result : goal.overflow_add-result
overflow_add-result c = omega (arith, c.widen_subnormal.ensures.1)

pub returns-then-field-eq0 : goal.returns-then-field-eq0
returns-then-field-eq0 c =
    with-sign (goal.at.returns-then-field-eq0 c).After-single_fraction-fraction c.widen_subnormal.result (unsigned_bits (single_fraction (bits (goal.at.returns-then-field-eq0 c).After-single_fraction-fraction) * 2 ^ 925))
    (c.widen_subnormal.ensures.0 ∙ ap (λ (t : ℕ). unsigned_bits (t * 2 ^ 925)) (fraction-here (goal.at.returns-then-field-eq0 c).After-single_fraction-fraction))
    (widened-low (bits (goal.at.returns-then-field-eq0 c).After-single_fraction-fraction) (in-range (goal.at.returns-then-field-eq0 c).After-single_fraction-fraction) (sym (field-here (goal.at.returns-then-field-eq0 c).After-single_fraction-fraction) ∙ c.if-field-eq0.true))

pub returns-then-field-lt255 : goal.returns-then-field-lt255
returns-then-field-lt255 c =
    let e = field-here (goal.at.returns-then-field-lt255 c).After-single_fraction-fraction in
    with-sign (goal.at.returns-then-field-lt255 c).After-single_fraction-fraction c.widen_normal.result ((single_field (bits (goal.at.returns-then-field-lt255 c).After-single_fraction-fraction) + 896) * 2 ^ 52 + single_fraction (bits (goal.at.returns-then-field-lt255 c).After-single_fraction-fraction) * 2 ^ 29)
    (c.widen_normal.ensures ∙ ap₂ (λ (x t : ℕ). (x + 896) * 2 ^ 52 + t * 2 ^ 29) e (fraction-here (goal.at.returns-then-field-lt255 c).After-single_fraction-fraction))
    (widened_mid (bits (goal.at.returns-then-field-lt255 c).After-single_fraction-fraction) (in-range (goal.at.returns-then-field-lt255 c).After-single_fraction-fraction) (omega arith) (omega arith))

pub returns-then-fraction-eq0 : goal.returns-then-fraction-eq0
returns-then-fraction-eq0 c =
    with-sign (goal.at.returns-then-fraction-eq0 c).After-single_fraction-fraction (2047 * 2 ^ 52) (2047 * 2 ^ 52) refl (widened-infinite (bits (goal.at.returns-then-fraction-eq0 c).After-single_fraction-fraction) (in-range (goal.at.returns-then-fraction-eq0 c).After-single_fraction-fraction) (all_ones (goal.at.returns-then-fraction-eq0 c).Else-field-lt255) (sym (fraction-here (goal.at.returns-then-fraction-eq0 c).After-single_fraction-fraction) ∙ c.if-fraction-eq0.true))

pub returns-else-fraction-eq0 : goal.returns-else-fraction-eq0
returns-else-fraction-eq0 c =
    sym (widened_nan (bits (goal.at.returns-else-fraction-eq0 c).After-single_fraction-fraction) (in-range (goal.at.returns-else-fraction-eq0 c).After-single_fraction-fraction) (all_ones (goal.at.returns-else-fraction-eq0 c).Else-field-lt255) (λ e. c.if-fraction-eq0.false (fraction-here (goal.at.returns-else-fraction-eq0 c).After-single_fraction-fraction ∙ e)))
