use mathlib.Core.Path.{sym, ◌∙◌}
use native.Mathlib.Omega.{arith}
use Rattle.exports.proofs.Answers.{add-groups}
use Rattle.exports.proofs.girth_add.Goals as goal

pub count_or_minus-requires : goal.count_or_minus-requires
count_or_minus-requires c = λ n e. omega (arith, add-groups _ _ _ _ _ _ (sym c.add.ensures.answer ∙ e))
