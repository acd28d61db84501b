-- A section's sum: the double nearest to its kept value, which is a whole number of units of 2^-1074, the smallest double.
use Rattle.std.specs.Prelude.{ℕ, ◌-◌, ◌*◌, ◌%◌, ◌^◌, ◌≤◌, ◌≡◌, Bool, true, not, leb, ℤ, nat_abs, ◌-ℤ◌, Float}
use Rattle.std.specs.Int.Signed.{non_neg}
use Rattle.std.specs.Float.{binary64}
use Rattle.std.specs.Float.Ieee.{round}
use Rattle.level.specs.Double.{finite_bits, significand, value}

-- the double nearest to k units, a tie going to the even significand
unfoldable pub nearest_double : ℤ → Float
nearest_double k = round binary64 (not (non_neg k)) (nat_abs k) (2 ^ 1074)

-- the size from which a kept value is too large: 2^1024 - 2^970, in units
abbrev pub limit : ℕ
limit = (2 ^ 1024 - 2 ^ 970) * 2 ^ 1074

-- document 01's condition 14
unfoldable pub too_large : ℤ → Bool
too_large k = leb limit (nat_abs k)

-- what "nearest" means, apart from how it is found: the double with the bits b is finite, no finite double is nearer to k units, and where another
-- one is as near, the significand of b is even
pub record NearestFinite (k : ℤ) (b : ℕ) : Type 0 where
  pub is_finite : finite_bits b ≡ true
  pub near : (c : ℕ) → finite_bits c ≡ true → nat_abs (k -ℤ value b) ≤ nat_abs (k -ℤ value c)
  pub even : (c : ℕ) → finite_bits c ≡ true → (value c ≡ value b → ⊥) → nat_abs (k -ℤ value b) ≡ nat_abs (k -ℤ value c) → significand b % 2 ≡ 0
