use mathlib.Core.Path.{ap, ◌∙◌}
use Prim.Native.Nat.{ℕ, ◌+◌, ◌-◌, ◌*◌, ◌/◌, ◌^◌, ◌≤◌}
use native.Mathlib.Nat.{le_trans, le_of_eq}
use Rattle.limbs.proofs.Leading.{leading_le}
use Rattle.limbs.proofs.Scaled.{field_lt, field_fits, assembled, assembled_side, shift-lt, assembled_small, assembled_small_side}
use Rattle.limbs.proofs.U160.nearest_bits.Goals as goal

pub assemble-requires : goal.assemble-requires
assemble-requires c =
    let r = c.normalise-n.result in
    let l = c.leading_digits-digits in
    let q : l.result.unsigned ≤ 2 ^ 53 = le_trans (le_of_eq l.ensures.nearest) (leading_le r.magnitude.limbs r.magnitude.reduced) in
    (field_lt c.args.e r.by c.requires.scale, (field_fits c.args.e r.by l.result.unsigned c.requires.scale q).fits)

pub returns-then-n-unshifted-clause-nearest : goal.returns-then-n-unshifted-clause-nearest
returns-then-n-unshifted-clause-nearest c =
    let r = c.normalise-n in
    c.assemble.ensures
    ∙ ap (λ (q : ℕ). (27 + c.args.e - r.result.by) * 2 ^ 52 + q) c.leading_digits-digits.ensures.nearest
    ∙ assembled c.args.self.limbs r.result.magnitude.limbs c.args.e r.result.by r.ensures.shifted_left r.ensures.leading_set c.requires.whole_units c.if-n-unshifted.true

pub returns-then-n-unshifted-clause-side : goal.returns-then-n-unshifted-clause-side
returns-then-n-unshifted-clause-side c =
    let r = c.normalise-n in
    c.leading_digits-digits.ensures.side ∙ assembled_side c.args.self.limbs r.result.magnitude.limbs c.args.e r.result.by r.ensures.shifted_left r.ensures.leading_set c.requires.whole_units c.if-n-unshifted.true

pub overflow_shr-result : goal.overflow_shr-result
overflow_shr-result c =
    let r = c.normalise-n in
    shift-lt c.args.self.limbs r.result.magnitude.limbs c.args.e r.result.by r.ensures.shifted_left r.ensures.leading_set c.requires.whole_units c.if-n-unshifted.false

pub returns-clause-nearest : goal.returns-clause-nearest
returns-clause-nearest c =
    let r = c.normalise-n in
    ap (λ (q : ℕ). q / 2 ^ (r.result.by - (27 + c.args.e))) c.leading_digits-digits.ensures.nearest
    ∙ assembled_small c.args.self.limbs r.result.magnitude.limbs c.args.e r.result.by r.ensures.shifted_left r.ensures.leading_set c.requires.whole_units c.if-n-unshifted.false

pub returns-clause-side : goal.returns-clause-side
returns-clause-side c =
    let r = c.normalise-n in
    assembled_small_side c.args.self.limbs r.result.magnitude.limbs c.args.e r.result.by r.ensures.shifted_left r.ensures.leading_set c.requires.whole_units c.if-n-unshifted.false
