-- The bits of a double by its size.
use Rattle.std.specs.Prelude.{ℕ, ◌+◌, ◌-◌, ◌*◌, ◌/◌, ◌^◌}
use Rattle.std.specs.Float.Ieee.{size}

-- the bits, without the sign, of the double that is n units of 2^-1074 in size: its 53 leading digits and, from where the exponent field begins, how many follow
-- them; the hidden digit stands there too, and adds one
abbrev pub unsigned_bits : ℕ → ℕ
unsigned_bits n = (size n - 53) * 2 ^ 52 + n / 2 ^ (size n - 53)
