use mathlib.Core.Path.{sym, ap, ◌∙◌}
use native.Mathlib.Omega.{arith}
use lib.ListN.{length}
use mir.Syntax.{w64}
use mir.Val.{SFits}
use mir.ValLaws.{to_z-of_z}
use borrow.Author.Rules.{rules}
use Rattle.exports.specs.Calls.{returns_count}
use Rattle.exports.proofs.Answers.{add-groups}
use Rattle.exports.proofs.Widths.{unfit_add, unfit_add_leaves}
use Rattle.exports.proofs.refuse_unknown_width.Goals as goal

pub count_or_minus-requires : goal.count_or_minus-requires
count_or_minus-requires c = λ n e. omega (arith, add-groups _ _ _ _ _ _ (sym c.add.ensures.answer ∙ e))

pub returns-clause-answer : goal.returns-clause-answer
returns-clause-answer c =
    let s = c.args in
    let f : SFits w64 c.count_or_minus.result = search rules in
    to_z-of_z w64 c.count_or_minus.result f ∙ c.count_or_minus.ensures ∙ ap returns_count (c.add.ensures.answer ∙ unfit_add s.table.now s.g (length s.work.now))

pub returns-clause-content : goal.returns-clause-content
returns-clause-content c = c.add.ensures.content ∙ unfit_add_leaves c.args.table.now c.args.g (length c.args.work.now)
