use mathlib.Core.Path.{◌∙◌}
use Rattle.codec.proofs.Fields.{four}
use Rattle.codec.proofs.U32Field.read.Goals as goal

pub returns : goal.returns
returns c = c.from_le_bytes.ensures ∙ four c.args.s.now c.args.at c.requires
