-- The bits of the double nearest to a number of units of 2^-1074, and the 53 leading digits that they hold.
use Rattle.std.specs.Prelude.{ℕ, ◌+◌, ◌-◌, ◌*◌, ◌/◌, ◌^◌, Bool, cond, List}
use Rattle.std.specs.Float.Ieee.{size}
use Rattle.limbs.specs.Limbs.{value_of}
use Rattle.limbs.specs.Nearest.{nearest_by, is_odd}

-- the 53 leading digits of 160, to the nearest number, an exact half to the even one
abbrev pub leading_digits : List ℕ → ℕ
leading_digits a = nearest_by is_odd (value_of a) (2 ^ 107)

-- how many digits of n a double drops
abbrev pub dropped_digits : ℕ → ℕ
dropped_digits n = size n - 53

-- what a double keeps of n units: its leading digits, to the nearest number, an exact half to the even one
abbrev pub significand_of : ℕ → ℕ
significand_of n = nearest_by is_odd n (2 ^ dropped_digits n)

-- the value of the double nearest to n units, in units
abbrev pub rounded_units : ℕ → ℕ
rounded_units n = significand_of n * 2 ^ dropped_digits n

-- the bits of the double nearest to n units, without the sign: the hidden digit, which stands where the exponent field begins, adds one to it
abbrev pub packed : ℕ → ℕ
packed n = dropped_digits n * 2 ^ 52 + significand_of n

-- the least bits without a sign that are no finite double's: the exponent field 2047
abbrev pub infinite : ℕ
infinite = 2047 * 2 ^ 52

-- the bit of a sign
abbrev pub sign_bit : Bool → ℕ
sign_bit s = cond s (2 ^ 63) 0

-- limbs times 2^e / 2^80, in units
abbrev pub units_of : List ℕ → ℕ → ℕ
units_of a e = value_of a * 2 ^ e / 2 ^ 80

-- the largest e for which an exponent of 27 + e above 53 digits stays below 2^64
abbrev pub most_scale : ℕ
most_scale = 4066
