-- `shift` is the top's power less the significand's.
use native.Mathlib.Omega.{arith}
use Rattle.level.proofs.Top.{top-le, top-place}
use Rattle.level.proofs.shift.Goals as goal

pub overflow_mul-result : goal.overflow_mul-result
overflow_mul-result c = omega (arith, top-le c.args.bits)

pub overflow_sub-result : goal.overflow_sub-result
overflow_sub-result c = omega (arith, top-place c.args.bits)
