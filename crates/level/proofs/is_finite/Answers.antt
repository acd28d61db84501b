-- `is_finite`: the exponent field is not all ones.
use Rattle.level.proofs.is_finite.Goals as goal

pub returns : goal.returns
returns c = cc
