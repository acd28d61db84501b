-- `exponent_field` reads the exponent field: a mask of eleven ones is the remainder by 2^11.
use Prim.Native.Nat.{◌/◌, ◌^◌}
use lib.Bits.{and_mask}
use Rattle.level.proofs.exponent_field.Goals as goal

pub returns : goal.returns
returns c = and_mask (c.args.bits / 2 ^ 52) 11
