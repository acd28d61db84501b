-- `single_fraction` reads the fraction: a mask of 23 ones is the remainder by 2^23.
use lib.Bits.{and_mask}
use Rattle.single.proofs.single_fraction.Goals as goal

pub returns : goal.returns
returns c = and_mask c.args.bits 23
