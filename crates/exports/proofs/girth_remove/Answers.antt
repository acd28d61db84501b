use mathlib.Core.Path.{sym, ◌∙◌}
use native.Mathlib.Omega.{arith}
use Rattle.exports.proofs.Answers.{remove-groups}
use Rattle.exports.proofs.girth_remove.Goals as goal

pub count_or_minus-requires : goal.count_or_minus-requires
count_or_minus-requires c = λ n e. omega (arith, remove-groups _ _ _ _ _ _ (sym c.remove.ensures.answer ∙ e))
