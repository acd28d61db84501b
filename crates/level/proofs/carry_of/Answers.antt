-- `carry_of`: the shift is the division rounding down.
use mathlib.Core.Path.{◌≡◌}
use mir.Syntax.{w64}
use mir.Val.{to_z, of_z, SFits}
use mir.ValLaws.{to_z-of_z, sfits_le}
use lib.IntN.{ℤ}
use lib.Signed.{shr_z, mag_shr}
use Rattle.level.specs.Carry.{carry_base, carry_of}
use Rattle.level.proofs.carry_of.Goals as goal

carry-shifted : (z : ℤ) → SFits w64 z → to_z w64 (of_z w64 (shr_z (to_z w64 (of_z w64 z)) (carry_base))) ≡ carry_of z
carry-shifted z f = rw (to_z-of_z w64 z f) (to_z-of_z w64 (carry_of z) (sfits_le (mag_shr z (carry_base)) f))

pub returns : goal.returns
returns c = carry-shifted c.args.total c.ranges.total
