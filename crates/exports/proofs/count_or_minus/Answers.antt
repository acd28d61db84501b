use mathlib.Core.Path.{ap}
use native.Mathlib.Omega.{arith}
use Rattle.refusal.specs.Answer.{outcome_of}
use Rattle.exports.proofs.count_or_minus.Goals as goal

pub overflow_cast-result : goal.overflow_cast-result
overflow_cast-result c = omega (arith, c.requires c.in-Ok.n (ap outcome_of c.in-Ok.is))
