-- `usual_top` looks up the field itself: what is above 996 is below 64.
use native.Mathlib.Omega.{arith}
use Rattle.level.proofs.usual_top.Goals as goal

pub returns : goal.returns
returns c b h = c.field_top.ensures b (omega (arith, h))
