-- A row's value is the one that the toolchain's account of IEEE 754 reads from its bits.
use mathlib.Core.Path.{◌≡◌}
use mathlib.Core.Bool.{true}
use Prim.Native.Nat.{ℕ, ◌^◌, ◌<◌}
use lib.Pow as Pow
use lib.Ieee.{binary64, of_bits}
use lib.Ieee.Exact.{HasValue}
use lib.Ieee.Scale as Scale
use Rattle.ieee.proofs.Fields.{bits_finite, bits-value}
use Rattle.level.specs.Double.{negative, exponent_field, finite_bits, magnitude}

-- the patterns that are no infinity and no NaN are the finite ones
pub finite_binary64 : (b : ℕ) → Scale.finite (of_bits binary64 b) ≡ finite_bits b
finite_binary64 b = bits_finite binary64 b (exponent_field b) (Pow.field b 11 52)

-- a finite pattern's float has its sign, and its size over 2^1074
pub value_binary64 : (b : ℕ) → b < 2 ^ 64 → finite_bits b ≡ true → HasValue (of_bits binary64 b) (negative b) (magnitude b) (2 ^ 1074)
value_binary64 b h n = bits-value binary64 b (exponent_field b) (Pow.field b 11 52) h n
