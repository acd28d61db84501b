-- `field_top` reads the constant table: its length and its test are computed.
use mathlib.Core.Path.{refl}
use borrow.Author.Rules.{rules}
use Rattle.lists.specs.Lists.{exceptions}
use Rattle.level.proofs.field_top.Goals as goal

pub listed_top-requires : goal.listed_top-requires
unfolding exceptions
listed_top-requires c = (refl, refl, search rules, search rules)
