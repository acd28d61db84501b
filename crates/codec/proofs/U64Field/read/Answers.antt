use mathlib.Core.Path.{◌∙◌}
use Rattle.codec.proofs.Fields.{eight}
use Rattle.codec.proofs.U64Field.read.Goals as goal

pub returns : goal.returns
returns c = c.from_le_bytes.ensures ∙ eight c.args.s.now c.args.at c.requires
