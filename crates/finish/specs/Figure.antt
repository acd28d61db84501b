-- The mill figure of a sum.
use Rattle.std.specs.Prelude.{ℕ, ◌*◌, ◌≤◌, ◌<◌, ◌≡◌, Bool, true, ltb, ℤ, pos, nat_abs, ◌-ℤ◌, ◌*ℤ◌, Float}
use Rattle.std.specs.Float.{nan, inf, fin}
use Rattle.std.specs.Float.Ieee.{up, down}
use Rattle.level.specs.Double.{signed}
use Rattle.limbs.specs.Nearest.{nearest_by}

-- Card 5's rule for an exact half: the larger size, which is away from zero
abbrev pub away_from_zero : ℕ → Bool
away_from_zero q = true

-- 100 x to the nearest whole number, an exact half going away from zero. `fin s m e` is m × up e / down e with the sign s; no figure is asked of a NaN or an
-- infinity.
unfoldable pub mill_figure : Float → ℤ
unfolding nearest_by
mill_figure nan = pos 0
mill_figure (inf s) = pos 0
mill_figure (fin s m e) = signed s (nearest_by away_from_zero (m * up e * 100) (down e))

-- the largest size of a figure
abbrev pub largest_figure : ℕ
largest_figure = 2147483647

-- document 01's condition 15: a figure beyond that in size
unfoldable pub beyond : ℤ → Bool
beyond z = ltb largest_figure (nat_abs z)

-- how far z units u are from v
abbrev pub units_apart : ℕ → ℤ → ℤ → ℕ
units_apart u v z = nat_abs (v -ℤ z *ℤ pos u)

-- what "nearest, an exact half going away from zero" means, apart from how it is found: no whole number of units u is nearer to v than z, and where another
-- one is as near, z is the larger in size
pub record NearestAway (u : ℕ) (v z : ℤ) : Type 0 where
  pub near : (w : ℤ) → units_apart u v z ≤ units_apart u v w
  pub away : (w : ℤ) → (w ≡ z → ⊥) → units_apart u v z ≡ units_apart u v w → nat_abs w < nat_abs z
