-- `significand` is the significand.
use mathlib.Core.Path.{sym, ap, ◌∙◌}
use Prim.Native.Nat.{ℕ, ◌^◌}
use native.Mathlib.Omega.{arith}
use lib.Bits.{bit_or, or_shifted_r}
use Rattle.level.specs.Double.{fraction}
use Rattle.level.proofs.Double.{significand_subnormal, significand_normal}
use Rattle.level.proofs.significand.Goals as goal

pub returns-then-exponent_field-eq0 : goal.returns-then-exponent_field-eq0
returns-then-exponent_field-eq0 c =
    c.fraction_field.ensures ∙ sym (significand_subnormal c.args.bits (sym c.exponent_field.ensures ∙ c.if-exponent_field-eq0.true))

pub returns-else-exponent_field-eq0 : goal.returns-else-exponent_field-eq0
returns-else-exponent_field-eq0 c =
    let b = c.args.bits in
    ap (λ (f : ℕ). bit_or f (2 ^ 52)) c.fraction_field-else-exponent_field-eq0.ensures ∙ or_shifted_r 1 52 (fraction b) (omega arith)
    ∙ sym (significand_normal b (λ e. c.if-exponent_field-eq0.false (c.exponent_field.ensures ∙ e)))
