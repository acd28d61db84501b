use mathlib.Core.Path.{sym, ap, ◌∙◌}
use Rattle.refusal.specs.Answer.{outcome_of}
use Rattle.finish.proofs.Fraction.{not_nan}
use Rattle.finish.proofs.Outcomes.{finite_rounded}
use Rattle.exports.proofs.girth_sum.Goals as goal

pub float_to_bits-bits : goal.float_to_bits-bits
float_to_bits-bits c =
    let s = c.args in
    let x = c.in-Ok.x in
    not_nan x.sum (finite_rounded x s.table.now s.g s.key (ap outcome_of (sym c.in-Ok.is) ∙ c.rounded.ensures ∙ c.sum.ensures))
