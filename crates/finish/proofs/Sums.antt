-- The answer of a kept value is that of its bits. The idea: both say too large from the same size on, and below it the bits are the nearest double's.
use mathlib.Core.Path.{◌≡◌, refl, sym, ap₂, ◌∙◌}
use mathlib.Core.Logic.{◌↔◌, ⊎_elim}
use mathlib.Core.Bool.{Bool, true, false, not}
use Prim.Native.Nat.{ℕ, ◌+◌, ◌%◌, ◌^◌, ◌≤◌, ◌<◌}
use native.Mathlib.Omega.{arith}
use borrow.Author.Tests.{lt-leb, le-leb, leb-true, leb-false}
use lib.Dec.{T}
use lib.Arith.{le→nltb}
use lib.Signed.{non_neg}
use lib.IntN.{ℤ, pos, nat_abs}
use lib.Ieee.{inf, binary64, of_bits, nan_bits, size, round, fits}
use lib.Ieee.Fits.{round-fits}
use lib.Ieee.Bits.{nan_bits_above}
use lib.Ieee.Scale.{finite}
use Rattle.finish.specs.Sum.{limit, nearest_double, too_large}
use Rattle.limbs.specs.Nearest.{nearest_by}
use Rattle.std.specs.declared.cmp.Ordering.{Ordering}
use Rattle.std.specs.declared.cmp.Ordering.TheVariants.{Equal}
use Rattle.limbs.specs.Packed.{packed, infinite, sign_bit}
use Rattle.limbs.specs.Side.{packed_side}
use Rattle.integers.proofs.Naturals.{le_or_lt}
use Rattle.limbs.proofs.Packed.{packed-value}
use Rattle.finish.specs.Side.{signed_side}
use Rattle.finish.specs.Steps.{kept_sum, sum_of_bits}
use Rattle.finish.specs.declared.SectionSum.{SectionSum}
use Rattle.finish.specs.declared.SectionSum.TheVariants.{Finite, TooLarge}
use Rattle.finish.proofs.Sides.{nearest-side}
use Rattle.finish.proofs.Limit.{limit-number, limit-infinite, limit_finite, limit_inf, inf_limit}

-- ---- bits that are no NaN's

no_nan : (n : ℕ) → n % 2 ^ 63 ≤ infinite → T (not (nan_bits binary64 n))
no_nan n h = rw (nan_bits_above binary64 n) (le→nltb (infinite) (n % 2 ^ 63) h)

pub plain_number : (n : ℕ) → n < infinite → T (not (nan_bits binary64 n))
plain_number n h = no_nan n (omega arith)

pub negative-number : (n : ℕ) → n < infinite → T (not (nan_bits binary64 (n + 2 ^ 63)))
negative-number n h = no_nan (n + 2 ^ 63) (omega arith)

-- ---- the answer of bits

module _ (n : ℕ) (s : Bool) (d : Ordering) where
  pub bits-large : infinite ≤ n → TooLarge ≡ sum_of_bits n s d
  bits-large h = rw (le-leb (infinite) n h)

  sum_of_finite : n < infinite → Finite (of_bits binary64 (sign_bit s + n)) (signed_side s d) ≡ sum_of_bits n s d
  sum_of_finite h = rw (lt-leb (infinite) n h)

-- ---- the answer of a kept value

pub sum_of_kept : (k : ℤ) → sum_of_bits (packed (nat_abs k)) (not (non_neg k)) (packed_side (nat_abs k)) ≡ kept_sum k
unfolding too_large nearest_double
sum_of_kept k = ⊎_elim (λ h. large h) (λ h. small h) (le_or_lt limit (nat_abs k))
  where
    large : limit ≤ nat_abs k → sum_of_bits (packed (nat_abs k)) (not (non_neg k)) (packed_side (nat_abs k)) ≡ kept_sum k
    large h = sym (bits-large (packed (nat_abs k)) (not (non_neg k)) (packed_side (nat_abs k)) (limit-infinite (nat_abs k) h)) ∙ rw (le-leb limit (nat_abs k) h)

    small : nat_abs k < limit → sum_of_bits (packed (nat_abs k)) (not (non_neg k)) (packed_side (nat_abs k)) ≡ kept_sum k
    small h =
        let f = limit_finite (nat_abs k) h in
        let e = lt-leb limit (nat_abs k) h in
        sym (sum_of_finite (packed (nat_abs k)) (not (non_neg k)) (packed_side (nat_abs k)) f)
        ∙ ap₂ Finite (packed-value (not (non_neg k)) (nat_abs k) f) (sym (nearest-side k e))
        ∙ rw e

-- the sum of a size of n units and a sign
abbrev sum_of_size : ℕ → Bool → SectionSum
sum_of_size n s = sum_of_bits (packed n) s (packed_side n)

bits_of_zero : sum_of_size 0 false ≡ Finite (of_bits binary64 0) Equal
unfolding size nearest_by
bits_of_zero = refl

-- a kept value of 0 gives +0 and is equal to it
pub sum_of_zero : (k : ℤ) → nat_abs k ≡ 0 → not (non_neg k) ≡ false → Finite (of_bits binary64 0) Equal ≡ kept_sum k
sum_of_zero k e f = sym (ap₂ sum_of_size e f ∙ bits_of_zero) ∙ sum_of_kept k

pub zero-sum : kept_sum (pos 0) ≡ Finite (of_bits binary64 0) Equal
zero-sum = sym (sum_of_zero (pos 0) refl refl)

-- the nearest double fits the format
pub double_fits : (k : ℤ) → T (fits binary64 (nearest_double k))
unfolding nearest_double
double_fits k = round-fits binary64 (not (non_neg k)) (nat_abs k) (2 ^ 1074)

-- and is finite where the kept value is not too large
pub double_finite : (k : ℤ) → too_large k ≡ false → T (finite (nearest_double k))
unfolding too_large nearest_double
double_finite k e = limit-number (not (non_neg k)) (nat_abs k) (leb-false limit (nat_abs k) e)

-- ---- too large is where rounding gives an infinity

pub too_large_infinite : (k : ℤ) → (too_large k ≡ true) ↔ (nearest_double k ≡ inf (not (non_neg k)))
unfolding too_large nearest_double
too_large_infinite k = (
  λ e. limit_inf (not (non_neg k)) (nat_abs k) (leb-true limit (nat_abs k) e),
  λ e. le-leb limit (nat_abs k) (inf_limit (not (non_neg k)) (not (non_neg k)) (nat_abs k) e),
)

-- a kept value of 0 has the sum +0
pub nearest_zero : nearest_double (pos 0) ≡ of_bits binary64 0
unfolding nearest_double round of_bits
nearest_zero = refl
