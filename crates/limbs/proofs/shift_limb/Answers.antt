use mathlib.Core.Path.{refl}
use Prim.Native.Nat.{◌*◌, ◌^◌}
use Rattle.limbs.proofs.Shift.{last_same, carried_out}
use Rattle.limbs.proofs.shift_limb.Goals as goal

pub returns : goal.returns
returns c = let a = c.args in rw (last_same (a.x * 2 ^ a.d), carried_out a.under a.d c.requires.0) refl
