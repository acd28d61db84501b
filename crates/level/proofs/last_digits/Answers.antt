-- `last_digits` is a remainder by a power of two.
use mathlib.Core.Path.{ap, ◌∙◌}
use Prim.Native.Nat.{ℕ, ◌-◌}
use native.Mathlib.Omega.{arith}
use lib.Bits.{bit_and, and_mask}
use lib.Pow.{pow_pos}
use Rattle.level.proofs.last_digits.Goals as goal

pub overflow_sub-result : goal.overflow_sub-result
overflow_sub-result c = omega (arith, pow_pos c.args.d)

pub returns : goal.returns
returns c = ap (λ (p : ℕ). bit_and c.args.x (p - 1)) c.power.ensures ∙ and_mask c.args.x c.args.d
