-- `finest_power` is the row's finest power: the significand's scale and its trailing zeros, or 2,098 for a zero.
use mathlib.Core.Path.{sym, ap, ap₂, ◌∙◌}
use Prim.Native.Nat.{◌+◌}
use native.Mathlib.Omega.{arith}
use lib.Count.{count_trailing_zeros, trailing_le}
use Rattle.level.proofs.Finest.{finest-zero, finest_trailing}
use Rattle.level.proofs.finest_power.Goals as goal

pub returns-then-s-eq0 : goal.returns-then-s-eq0
returns-then-s-eq0 c = sym (finest-zero c.args.bits (sym c.significand-s.ensures ∙ c.if-s-eq0.true))

pub returns : goal.returns
returns c =
    let s = c.significand-s in
    ap₂ ◌+◌ c.scale.ensures (ap (count_trailing_zeros 64) s.ensures) ∙ sym (finest_trailing c.args.bits (omega arith))

pub overflow_add-result : goal.overflow_add-result
overflow_add-result c = omega (arith, trailing_le 64 c.significand-s.result)
