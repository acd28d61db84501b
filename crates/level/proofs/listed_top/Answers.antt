-- `listed_top` reads the entry that the law of a tested constant table speaks of.
use borrow.Author.Rules.{rules}
use Rattle.level.proofs.ByField.{entry_top}
use Rattle.level.proofs.listed_top.Goals as goal

pub returns : goal.returns
returns c =
    entry_top c.args.tops.now c.requires.0 c.requires.1 c.args.e (search rules) (search rules)
