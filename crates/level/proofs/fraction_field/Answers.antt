-- `fraction_field` reads the fraction: a mask of 52 ones is the remainder by 2^52.
use lib.Bits.{and_mask}
use Rattle.level.proofs.fraction_field.Goals as goal

pub returns : goal.returns
returns c = and_mask c.args.bits 52
