-- `cut_at` takes the whole units off, which a shift counts without losing a digit.
use mathlib.Core.Path.{◌≡◌, sym, ap, ◌∙◌}
use Prim.Native.Nat.{ℕ, ◌-◌, ◌*◌, ◌^◌, ◌%◌, ◌<◌, ◌≤◌}
use native.Mathlib.Nat.{mod-eq_of_lt}
use native.Mathlib.Omega.{arith}
use lib.Dec.{ltb}
use lib.Ieee.Nearest.{closest}
use Rattle.level.specs.Cut.{rest_of, rounded_up}
use Rattle.level.proofs.Near.{closest_fits}
use Rattle.level.proofs.cut_at.Goals as goal

-- the shifted units
whole : (n x d : ℕ) → n ≡ closest x (2 ^ d) → (x < 2 ^ 53) × (d < 54) → n * 2 ^ d % 2 ^ 64 ≡ closest x (2 ^ d) * 2 ^ d
whole n x d e h = ap (λ (m : ℕ). m * 2 ^ d % 2 ^ 64) e ∙ mod-eq_of_lt (closest_fits x d h.0 h.1)

pub returns : goal.returns
returns c =
    let w = whole c.nearest-units.result c.args.x c.args.d c.nearest-units.ensures c.requires in
    (c.nearest-units.ensures, omega (arith, c.abs_diff.ensures, w), ap (ltb c.args.x) w)
