-- `parity` is the last binary digit.
use lib.Bits.{and_mask}
use Rattle.level.proofs.parity.Goals as goal

pub returns : goal.returns
returns c = and_mask c.args.x 1
