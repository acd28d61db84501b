-- The most bytes that each numeral takes.
use Rattle.std.specs.Prelude.{ℕ, ◌+◌}

-- a 32-bit number in decimal
abbrev pub longest_decimal : ℕ
longest_decimal = 10

-- a 64-bit number in decimal
abbrev pub longest_u64 : ℕ
longest_u64 = 20

-- a 32-bit whole number in decimal, its minus sign included
abbrev pub longest_integer : ℕ
longest_integer = 1 + longest_decimal

-- 64 bits in hexadecimal
abbrev pub longest_bits : ℕ
longest_bits = 16
