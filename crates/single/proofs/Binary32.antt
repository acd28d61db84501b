-- A short float's value is the one that the toolchain's account of IEEE 754 reads from its bits.
use mathlib.Core.Path.{◌≡◌, sym, subst}
use mathlib.Core.Bool.{true}
use Prim.Native.Nat.{ℕ, ◌*◌, ◌-◌, ◌^◌, ◌<◌}
use lib.Pow as Pow
use lib.Ieee.{binary32, of_bits}
use lib.Ieee.Exact.{HasValue}
use lib.Ieee.Scale as Scale
use Rattle.ieee.proofs.Fields.{bits_finite, bits-value}
use Rattle.ieee.proofs.Values.{value_scaled}
use Rattle.single.specs.Single.{single_negative, single_field, finite_single, single_significand, single_magnitude}

-- the patterns that are no infinity and no NaN are the finite ones
pub finite_binary32 : (x : ℕ) → Scale.finite (of_bits binary32 x) ≡ finite_single x
finite_binary32 x = bits_finite binary32 x (single_field x) (Pow.field x 8 23)

-- a finite pattern's float has its sign, and its size over 2^1074
pub value_binary32 : (x : ℕ) → x < 2 ^ 32 → finite_single x ≡ true → HasValue (of_bits binary32 x) (single_negative x) (single_magnitude x) (2 ^ 1074)
value_binary32 x h n =
    subst (λ (c : ℕ). HasValue (of_bits binary32 x) (single_negative x) (single_magnitude x) c) (sym (Pow.pow-add 2 149 925))
    (value_scaled (of_bits binary32 x) (single_negative x) (single_significand x * 2 ^ (single_field x - 1)) (2 ^ 149) (2 ^ 925) (bits-value binary32 x (single_field x) (Pow.field x 8 23) h n))
