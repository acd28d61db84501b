-- `block_top` looks up the field itself: a number is its part and the remainder.
use native.Mathlib.Omega.{arith}
use Rattle.level.proofs.block_top.Goals as goal

pub returns : goal.returns
returns c b h = c.field_top.ensures b (omega (arith, h))
