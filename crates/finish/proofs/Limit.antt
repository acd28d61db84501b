-- From document 01's bound of 14 on, and only then, rounding gives an infinity. The idea: nearest numbers rise with the fraction, so the bound itself and
-- the number below it decide for all, and `antt` computes those two.
use mathlib.Core.Path.{◌≡◌, refl, sym, ap, ◌∙◌}
use mathlib.Core.Logic.{◌⊎◌, inl, inr, ⊎_elim}
use mathlib.Core.Bool.{Bool, true, false}
use Prim.Native.Nat.{ℕ, ◌+◌, ◌-◌, ◌^◌, ◌≤◌, ◌<◌}
use native.Mathlib.Nat.{le_trans, le_of_eq, eq-or-lt_of_le, lt_of_lt_of_le, lt_of_not-le, not-le_of_lt, le_of_suc-le-suc, mul-le-mul_right, lt_irrefl}
use native.Mathlib.Omega.{arith}
use lib.Dec.{T, lit≤}
use lib.Pow.{pow_pos, pow_mono}
use lib.Ieee.{Float, nan, inf, fin, binary64, size, round, to_bits}
use lib.Ieee.Digits.{size-lt, size-le}
use lib.Ieee.Exact.{HasValue}
use lib.Ieee.Scale.{finite}
use lib.Ieee.Nearest.{closest, closest_mono}
use Rattle.limbs.specs.Packed.{dropped_digits, significand_of, rounded_units, packed, infinite, sign_bit}
use Rattle.integers.proofs.Naturals.{le_or_lt}
use Rattle.limbs.proofs.Nearest.{closest_odd}
use Rattle.limbs.proofs.Packed.{significand-le, significand_ge, packed-bits, packed_inf, packed_finite}
use Rattle.finish.specs.Sum.{limit}

size_at_limit : (n : ℕ) → limit ≤ n → 2045 ≤ dropped_digits n
size_at_limit n h =
    let a : 2097 < size n = lt_of_not-le (λ (g : size n ≤ 2097). not-le_of_lt (lt_of_lt_of_le (size-lt n) (pow_mono g)) (le_trans (lit≤ tt) h)) in
    omega arith

size_below_limit : (n : ℕ) → n < limit → dropped_digits n ≤ 2045
size_below_limit n h =
    let a : size n ≤ 2098 = size-le n 2098 (lt_of_lt_of_le h (lit≤ tt)) in
    omega arith

significand_at : (n k : ℕ) → dropped_digits n ≡ k → significand_of n ≡ closest n (2 ^ k)
significand_at n k e = sym (closest_odd n (2 ^ dropped_digits n)) ∙ ap (λ (j : ℕ). closest n (2 ^ j)) e

pub limit-infinite : (n : ℕ) → limit ≤ n → infinite ≤ packed n
limit-infinite n h = ⊎_elim (λ e. at (sym e)) (λ g. larger-infinite (significand_ge n) g) (eq-or-lt_of_le (size_at_limit n h))
  where
    larger-infinite : (dropped_digits n ≡ 0) ⊎ (2 ^ 52 ≤ significand_of n) → 2045 < dropped_digits n → infinite ≤ packed n
    larger-infinite (inl z) g = absurd (lt_irrefl 0 (omega arith))
    larger-infinite (inr l) g = omega arith

    at : dropped_digits n ≡ 2045 → infinite ≤ packed n
    at e =
        let q : 2 ^ 53 ≤ significand_of n = le_trans (closest_mono limit (2 ^ 2045) n (2 ^ 2045) (pow_pos 2045) (pow_pos 2045) (mul-le-mul_right (2 ^ 2045) h)) (le_of_eq (sym (significand_at n 2045 e))) in
        omega arith

pub limit_finite : (n : ℕ) → n < limit → packed n < infinite
limit_finite n h = ⊎_elim (λ e. at e) (λ g. before (significand-le n) g) (eq-or-lt_of_le (size_below_limit n h))
  where
    before : significand_of n ≤ 2 ^ 53 → dropped_digits n < 2045 → packed n < infinite
    before l g = omega arith

    at : dropped_digits n ≡ 2045 → packed n < infinite
    at e =
        let m : n ≤ limit - 1 = le_of_suc-le-suc h in
        let q : significand_of n ≤ 2 ^ 53 - 1 = le_trans (le_of_eq (significand_at n 2045 e)) (closest_mono n (2 ^ 2045) (limit - 1) (2 ^ 2045) (pow_pos 2045) (pow_pos 2045) (mul-le-mul_right (2 ^ 2045) m)) in
        omega arith

-- so `round` gives an infinity exactly from the limit on
pub limit_inf : (s : Bool) (n : ℕ) → limit ≤ n → round binary64 s n (2 ^ 1074) ≡ inf s
limit_inf s n h = packed_inf s n (limit-infinite n h)

pub inf_bits : (t : Bool) → to_bits binary64 (inf t) ≡ sign_bit t + infinite
unfolding to_bits
inf_bits t = refl

no_inf : (s t : Bool) (p : ℕ) → p < infinite → sign_bit s + p ≡ sign_bit t + infinite → ⊥
no_inf true true p h e = omega arith
no_inf true false p h e = omega arith
no_inf false true p h e = omega arith
no_inf false false p h e = omega arith

pub inf_limit : (s t : Bool) (n : ℕ) → round binary64 s n (2 ^ 1074) ≡ inf t → limit ≤ n
inf_limit s t n e = ⊎_elim (λ h. h) (λ h. absurd (no h)) (le_or_lt limit n)
  where
    no : n < limit → ⊥
    no h = let f = limit_finite n h in no_inf s t (packed n) f (sym (packed-bits s n f) ∙ ap (λ (x : Float). to_bits binary64 x) e ∙ inf_bits t)

-- below it the rounded value is finite, and a whole number of units
pub limit-value : (s : Bool) (n : ℕ) → n < limit → HasValue (round binary64 s n (2 ^ 1074)) s (rounded_units n) (2 ^ 1074)
limit-value s n h = packed_finite s n (limit_finite n h)

has_value : (x : Float) (s : Bool) (a c : ℕ) → HasValue x s a c → T (finite x)
has_value nan s a c h = h
has_value (inf t) s a c h = h
has_value (fin t m e) s a c h = tt

pub limit-number : (s : Bool) (n : ℕ) → n < limit → T (finite (round binary64 s n (2 ^ 1074)))
limit-number s n h = has_value (round binary64 s n (2 ^ 1074)) s (rounded_units n) (2 ^ 1074) (limit-value s n h)
