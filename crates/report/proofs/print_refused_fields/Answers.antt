use mathlib.Core.Path.{subst}
use Rattle.finish.specs.Steps.{FiniteSum}
use Rattle.finish.proofs.Fraction.{not_nan}
use Rattle.report.proofs.print_refused_fields.Goals as goal

pub float_to_bits-x : goal.float_to_bits-x
float_to_bits-x c =
    let x = c.in-Finite in
    not_nan x.x (subst FiniteSum x.is c.requires.finite_sum)
