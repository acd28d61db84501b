-- How long a numeral is.
use Prim.Native.Nat.{ℕ, suc, ◌^◌, ◌<◌, ◌≤◌}
use mathlib.Core.Path.{◌≡◌}
use native.Mathlib.Omega.{arith}
use lib.IntN.{ℤ, pos, negsuc, nat_abs}
use lib.ListN.{length}
use Rattle.numerals.specs.Numerals.{decimal, integer, hexadecimal}
use Rattle.numerals.specs.Steps.{longest_decimal, longest_u64, longest_integer, longest_bits}
use Rattle.numerals.proofs.Digits.{few_digits, length_digits}

pub length-decimal : (n : ℕ) → n < 2 ^ 32 → length (decimal n) ≤ longest_decimal
length-decimal n h = few_digits 9 n (omega arith)

pub length_u64 : (n : ℕ) → n < 2 ^ 64 → length (decimal n) ≤ longest_u64
length_u64 n h = few_digits 19 n (omega arith)

pub length-integer : (z : ℤ) → nat_abs z < 2 ^ 32 → length (integer z) ≤ longest_integer
unfolding integer
length-integer (pos n) h = omega (arith, length-decimal n h)
length-integer (negsuc n) h = omega (arith, length-decimal (suc n) h)

pub length-hexadecimal : (bits : ℕ) → length (hexadecimal bits) ≡ longest_bits
length-hexadecimal bits = length_digits 16 16 bits
