-- `single_field` reads the exponent field: a mask of eight ones is the remainder by 2^8.
use Prim.Native.Nat.{◌/◌, ◌^◌}
use lib.Bits.{and_mask}
use Rattle.single.proofs.single_field.Goals as goal

pub returns : goal.returns
returns c = and_mask (c.args.bits / 2 ^ 23) 8
