use mathlib.Core.Path.{sym, ap, ◌∙◌}
use Rattle.refusal.specs.Answer.{outcome_of}
use Rattle.finish.proofs.Fraction.{not_nan}
use Rattle.finish.proofs.Outcomes.{finite_line}
use Rattle.exports.proofs.girth_line.Goals as goal

pub float_to_bits-bits : goal.float_to_bits-bits
float_to_bits-bits c =
    let s = c.args in
    let l = c.in-Ok.l in
    not_nan l.sum (finite_line l s.table.now s.g s.key (ap outcome_of (sym c.in-Ok.is) ∙ c.line.ensures))
