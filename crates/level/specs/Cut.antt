-- A size cut at a unit, by its number of units, what is left, and whether the units came to more than the size.
use Rattle.std.specs.Prelude.{ℕ, ◌+◌, ◌-◌, ◌*◌, Bool, true, false, not, ltb}
use Rattle.level.specs.Double.{exponent_field}
use Rattle.level.specs.Level.{top}
use Rattle.std.specs.Float.Ieee.Nearest.{closest}

-- how many binary digits of a row's significand stand below its top's unit
abbrev pub shift_of : ℕ → ℕ
shift_of b = 40 * top b - (exponent_field b - 1)

-- how far apart two sizes are
abbrev pub abs_diff : ℕ → ℕ → ℕ
abs_diff x y = x - y + (y - x)

-- the size of what is left of x after its whole number of units u
abbrev pub rest_of : ℕ → ℕ → ℕ
rest_of x u = abs_diff x (closest x u * u)

-- whether that is negative
abbrev pub rounded_up : ℕ → ℕ → Bool
rounded_up x u = ltb x (closest x u * u)

-- a sign, flipped or kept
abbrev pub flipped_if : Bool → Bool → Bool
flipped_if g true = not g
flipped_if g false = g
