use Rattle.limbs.proofs.Shift.{digits_shifted}
use Rattle.limbs.proofs.U160.shift_digits.Goals as goal

pub invariant_of-result : goal.invariant_of-result
invariant_of-result c =
    let p = digits_shifted c.args.self.limbs c.args.d c.requires.within_limb c.args.self.reduced c.requires.has_room in
    rw (c.shift_limb.ensures, c.shift_limb-2.ensures, c.shift_limb-3.ensures, c.shift_limb-4.ensures) (record { reduced = p.0.reduced })

pub returns-clause-shifted_left : goal.returns-clause-shifted_left
returns-clause-shifted_left c =
    let p = digits_shifted c.args.self.limbs c.args.d c.requires.within_limb c.args.self.reduced c.requires.has_room in
    rw (c.shift_limb.ensures, c.shift_limb-2.ensures, c.shift_limb-3.ensures, c.shift_limb-4.ensures) p.0

pub returns-clause-last_shifted : goal.returns-clause-last_shifted
returns-clause-last_shifted c =
    let p = digits_shifted c.args.self.limbs c.args.d c.requires.within_limb c.args.self.reduced c.requires.has_room in
    rw c.shift_limb-4.ensures p.1
