use mathlib.Core.Path.{sym, ◌∙◌}
use native.Mathlib.Omega.{arith}
use Rattle.exports.proofs.Answers.{merge-groups}
use Rattle.exports.proofs.girth_merge.Goals as goal

pub count_or_minus-requires : goal.count_or_minus-requires
count_or_minus-requires c = λ n e. omega (arith, merge-groups _ _ _ _ (sym c.merge.ensures.answer ∙ e))
