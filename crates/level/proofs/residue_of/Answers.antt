-- `residue_of`: the low 50 bits of a number in two's complement are its residue.
use mathlib.Core.Path.{◌≡◌, ap, ◌∙◌}
use Prim.Native.Nat.{suc, ◌-◌, ◌^◌}
use native.Mathlib.Omega.{arith}
use mir.Syntax.{w64}
use mir.Val.{to_z, of_z, SFits}
use mir.ValLaws.{to_z_pos}
use lib.Bits.{bit_and, and_mask}
use lib.IntN.{ℤ, pos, negsuc, nat_abs}
use Rattle.level.specs.Carry.{carry_base, residue_of}
use Rattle.level.proofs.Carry.{residue_lt, low_fifty}
use Rattle.level.proofs.residue_of.Goals as goal

masked : (z : ℤ) → SFits w64 z → bit_and (of_z w64 z) (carry_base - 1) ≡ residue_of z
masked (pos n) f = and_mask n 50
masked (negsuc n) f = and_mask (2 ^ 64 - suc n) 50 ∙ low_fifty n f.sfits

residue-read : (z : ℤ) → SFits w64 z → to_z w64 (bit_and (of_z w64 z) (carry_base - 1)) ≡ pos (residue_of z)
residue-read z f = ap (to_z w64) (masked z f) ∙ to_z_pos w64 (residue_of z) (omega (arith, residue_lt z))

pub overflow_cast-result : goal.overflow_cast-result
overflow_cast-result c = rw (residue-read c.args.total c.ranges.total) (tt, omega (arith, residue_lt c.args.total))

pub returns : goal.returns
returns c = ap nat_abs (residue-read c.args.total c.ranges.total)
