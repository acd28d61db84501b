use native.Mathlib.Nat.{le_trans}
use lib.ListN.{get_or}
use Rattle.limbs.proofs.Shift.{zeros_ge, digits_fit, leads, shifted_on}
use Rattle.limbs.proofs.U160.normalise.Goals as goal

pub overflow_sub-d : goal.overflow_sub-d
overflow_sub-d c = let s = c.shift_limbs-m in zeros_ge (get_or s.result.magnitude.limbs 3 0) s.ensures.last_nonzero s.result.magnitude.reduced.limb3

pub shift_digits-requires-clause-has_room : goal.shift_digits-requires-clause-has_room
shift_digits-requires-clause-has_room c = let s = c.shift_limbs-m in digits_fit (get_or s.result.magnitude.limbs 3 0) s.ensures.last_nonzero s.result.magnitude.reduced.limb3

pub returns-clause-shifted_left : goal.returns-clause-shifted_left
returns-clause-shifted_left c = shifted_on _ _ _ _ _ c.shift_limbs-m.ensures.shifted_left c.shift_digits.ensures.shifted_left

pub returns-clause-leading_set : goal.returns-clause-leading_set
returns-clause-leading_set c =
    let s = c.shift_limbs-m in
    le_trans (leads (get_or s.result.magnitude.limbs 3 0) s.ensures.last_nonzero s.result.magnitude.reduced.limb3) c.shift_digits.ensures.last_shifted
