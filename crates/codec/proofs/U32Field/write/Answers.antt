-- its equation is asked by itself, so that a wrong width shows
use Rattle.codec.proofs.U32Field.write.Goals as goal

pub returns : goal.returns
returns c = c.write.ensures
