use mathlib.Core.Path.{◌≡◌, ap, ◌∙◌}
use Prim.Native.Nat.{◌^◌, compare, Ordering}
use Rattle.limbs.specs.Nearest.{rounded, is_odd}
use Rattle.limbs.specs.Packed.{leading_digits}
use Rattle.limbs.specs.Side.{rounded_side}
use Rattle.limbs.proofs.Leading.{lead, lead_nearest, lead_side}
use Rattle.limbs.proofs.U160.leading_digits.Goals as goal
use Rattle.limbs.proofs.U160.leading_digits.Goals.{After-round_by-n}

-- the digits that the rounding gives
digits-here : (c : After-round_by-n) → c.round_by-n.result ≡ leading_digits c.args.self.limbs
digits-here c =
    let a = c.args.self.limbs in
    let e : c.round_by-n.result ≡ rounded (is_odd (lead a)) (lead a) (compare c.lower_digits-rest.result (2 ^ 27)) = c.round_by-n.ensures in
    e ∙ ap (λ (o : Ordering). rounded (is_odd (lead a)) (lead a) o) c.lower_digits-rest.ensures.beside_half ∙ lead_nearest a c.args.self.reduced

pub returns-clause-nearest : goal.returns-clause-nearest
returns-clause-nearest c = digits-here (goal.at.returns-clause-nearest c).After-round_by-n

pub returns-clause-side : goal.returns-clause-side
returns-clause-side c =
    let a = c.args.self.limbs in
    let rest = c.lower_digits-rest.result in
    let e : c.rounding_side.result ≡ rounded_side (lead a) rest c.round_by-n.result = c.rounding_side.ensures in
    e ∙ ap (rounded_side (lead a) rest) (digits-here (goal.at.returns-clause-side c).After-round_by-n) ∙ lead_side a c.args.self.reduced rest c.lower_digits-rest.ensures.beside_zero
