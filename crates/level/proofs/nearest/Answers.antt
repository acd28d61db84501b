-- `nearest` rounds by what one addition carries into the quotient.
use Prim.Native.Nat.{ℕ, ◌+◌, ◌-◌, ◌/◌, ◌%◌, ◌^◌, ◌≤◌, ◌<◌}
use mathlib.Core.Path.{◌≡◌, sym, ap, ap₂, ◌∙◌}
use native.Mathlib.Omega.{arith}
use lib.Pow.{pow_pos, pow_mono}
use lib.Ieee.Nearest.{closest}
use Rattle.level.proofs.Near.{closest-one, closest_carry}
use Rattle.level.proofs.nearest.Goals as goal

-- half a unit
half-bound : (d : ℕ) → d < 54 → (0 < 2 ^ (d - 1)) × (2 ^ (d - 1) ≤ 2 ^ 53)
half-bound d h = (pow_pos (d - 1), pow_mono {j = 53} (omega arith))

pub returns-then-d-eq0 : goal.returns-then-d-eq0
returns-then-d-eq0 c =
    let a = c.args in
    sym (ap (λ (d : ℕ). closest a.x (2 ^ d)) c.if-d-eq0.true ∙ closest-one a.x)

pub overflow_sub-below_half : goal.overflow_sub-below_half
overflow_sub-below_half c = omega (arith, half-bound c.args.d c.requires.1)

pub overflow_add-result : goal.overflow_add-result
overflow_add-result c = omega (arith, half-bound c.args.d c.requires.1)

pub overflow_add-result-2 : goal.overflow_add-result-2
overflow_add-result-2 c = omega (arith, half-bound c.args.d c.requires.1)

pub returns : goal.returns
returns c =
    let a = c.args in
    let half : c.power-below_half.result ≡ 2 ^ (a.d - 1) = c.power-below_half.ensures in
    let parity : c.parity.result ≡ a.x / 2 ^ a.d % 2 = c.parity.ensures in
    ap₂ (λ (u v : ℕ). (a.x + (u - 1) + v) / 2 ^ a.d) half parity ∙ sym (closest_carry a.x a.d (omega arith))
