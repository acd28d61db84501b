-- The bits of the double nearest to n units of 2^-1074. The idea: a finite value's bits are its digits and how many zeros follow them, and a carry out of the
-- 53 digits raises the field by one, as it should; so digits and field are added, and an infinity comes out just where the sum reaches the field 2047.
use mathlib.Core.Path.{◌≡◌, refl, sym, ap, ◌∙◌, subst}
use mathlib.Core.Logic.{◌⊎◌, inl, inr, ⊎_elim}
use Prim.Native.Nat.{ℕ, suc, ◌+◌, ◌-◌, ◌*◌, ◌/◌, ◌^◌, ◌≤◌, ◌<◌, Ordering}
use native.Mathlib.Nat.{le_trans, le_of_eq, le_refl, eq-or-lt_of_le, lt_of_le_of_lt, mul-one, mul_assoc, mul-div_cancel, mul-le-mul_right, div-one, zero-add, suc-add, lt-suc_self, le-div_iff_mul-le, mul-pos, mul-le-mul, add_assoc}
use native.Mathlib.Omega.{arith}
use mathlib.Core.Bool.{Bool, true}
use lib.Dec.{ltb, lit<}
use lib.Arith.{le→nltb}
use lib.Pow.{pow-add, pow_pos, pow_mono, pow-lt, shl_lt}
use lib.Ieee.{Float, inf, binary64, size, units, round, to_bits, of_bits}
use lib.Ieee.Digits.{size-le, size_reaches}
use lib.Ieee.Fits.{round_is, round-fits, kept-lt}
use lib.Ieee.Exact.{HasValue, units_val}
use lib.Ieee.Bits.{of_bits-to_bits, cond_no}
use lib.Ieee.Nearest.{closest, closest_same}
use Rattle.ieee.proofs.Values.{size_is, value-bits}
use Rattle.integers.proofs.Naturals.{le_or_lt, pow-sum, order_cases}
use Rattle.limbs.specs.Nearest.{is_odd, rounded, nearest_by}
use Rattle.limbs.specs.Packed.{dropped_digits, significand_of, rounded_units, packed, infinite, sign_bit}
use Rattle.limbs.proofs.Nearest.{nearest-floor, nearest_ceiling, nearest_at, nearest_whole, closest_odd}

-- ---- q times 2^k units, q having its 53 digits or k being 0

pub none_dropped : (z : ℕ) → z ≤ 53 → z - 53 ≡ 0
none_dropped z h = omega arith

dropped_is : (z k : ℕ) → z ≡ suc (52 + k) → z - 53 ≡ k
dropped_is z k e = omega arith

dropped_next : (z k : ℕ) → z ≡ suc (53 + k) → z - 53 ≡ suc k
dropped_next z k e = omega arith

carry_joined : (k q : ℕ) → q ≡ 2 ^ 53 → suc k * 2 ^ 52 + 2 ^ 52 ≡ k * 2 ^ 52 + q
carry_joined k q e = omega arith

-- the 53 digits that are kept of q * 2^k, and how many are not
abbrev kept_of : ℕ → ℕ → ℕ
kept_of a d = d * 2 ^ 52 + a / 2 ^ d

kept_plain : (q : ℕ) → q < 2 ^ 53 → kept_of q (size q - 53) ≡ q
kept_plain q h = ap (λ (d : ℕ). kept_of q d) (none_dropped (size q) (size-le q 53 h)) ∙ zero-add (q / 1) ∙ div-one q

size_full : (q k : ℕ) → 2 ^ 52 ≤ q → q < 2 ^ 53 → size (q * 2 ^ k) ≡ suc (52 + k)
size_full q k l h =
    size_is (q * 2 ^ k) (52 + k) (le_trans (le_of_eq (pow-add 2 52 k)) (mul-le-mul_right (2 ^ k) l)) (subst (λ (x : ℕ). q * 2 ^ k < 2 ^ x) (suc-add 52 k) (shl_lt 53 k h))

kept_full : (q k : ℕ) → 2 ^ 52 ≤ q → q < 2 ^ 53 → kept_of (q * 2 ^ k) (size (q * 2 ^ k) - 53) ≡ k * 2 ^ 52 + q
kept_full q k l h =
    ap (λ (d : ℕ). kept_of (q * 2 ^ k) d) (dropped_is (size (q * 2 ^ k)) k (size_full q k l h)) ∙ ap (λ (x : ℕ). k * 2 ^ 52 + x) (mul-div_cancel q (pow_pos k))

size_next : (k : ℕ) → size (2 ^ 53 * 2 ^ k) ≡ suc (53 + k)
size_next k = ap size (sym (pow-add 2 53 k)) ∙ size_is (2 ^ (53 + k)) (53 + k) (le_refl (2 ^ (53 + k))) (pow-lt (lt-suc_self (53 + k)))

halved : (k : ℕ) → 2 ^ 53 * 2 ^ k / 2 ^ suc k ≡ 2 ^ 52
halved k = ap (λ (x : ℕ). x / 2 ^ suc k) (pow-sum 53 k (52 + suc k) (omega arith) ∙ pow-add 2 52 (suc k)) ∙ mul-div_cancel (2 ^ 52) (pow_pos (suc k))

kept_next : (q k : ℕ) → q ≡ 2 ^ 53 → kept_of (q * 2 ^ k) (size (q * 2 ^ k) - 53) ≡ k * 2 ^ 52 + q
kept_next q k e =
    ap (λ (x : ℕ). kept_of (x * 2 ^ k) (size (x * 2 ^ k) - 53)) e
    ∙ ap (λ (d : ℕ). kept_of (2 ^ 53 * 2 ^ k) d) (dropped_next (size (2 ^ 53 * 2 ^ k)) k (size_next k))
    ∙ ap (λ (x : ℕ). suc k * 2 ^ 52 + x) (halved k)
    ∙ carry_joined k q e

kept_is : (q k : ℕ) → q ≤ 2 ^ 53 → (k ≡ 0) ⊎ (2 ^ 52 ≤ q) → kept_of (q * 2 ^ k) (size (q * 2 ^ k) - 53) ≡ k * 2 ^ 52 + q
kept_is q k h (inr l) = ⊎_elim (λ e. kept_next q k e) (λ g. kept_full q k l g) (eq-or-lt_of_le h)
kept_is q k h (inl z) = ⊎_elim (λ e. kept_next q k e) (λ g. no_digit_dropped g) (eq-or-lt_of_le h)
  where
    no_digit_dropped : q < 2 ^ 53 → kept_of (q * 2 ^ k) (size (q * 2 ^ k) - 53) ≡ k * 2 ^ 52 + q
    no_digit_dropped g =
        ap (λ (j : ℕ). kept_of (q * 2 ^ j) (size (q * 2 ^ j) - 53)) z
        ∙ ap (λ (x : ℕ). kept_of x (size x - 53)) (mul-one q)
        ∙ kept_plain q g
        ∙ sym (ap (λ (j : ℕ). j * 2 ^ 52 + q) z ∙ zero-add q)

-- ---- what rounding n units keeps

pub significand-le : (n : ℕ) → significand_of n ≤ 2 ^ 53
significand-le n = le_trans (nearest_ceiling is_odd n (2 ^ dropped_digits n)) (kept-lt 53 n)

pub reaches : (n : ℕ) → 53 < size n → 2 ^ 52 ≤ n / 2 ^ dropped_digits n
reaches n h =
    let l : 52 + dropped_digits n < size n = omega arith in
    (le-div_iff_mul-le (pow_pos (dropped_digits n))).1 (le_trans (le_of_eq (sym (pow-add 2 52 (dropped_digits n)))) (size_reaches n (52 + dropped_digits n) l))

pub significand_ge : (n : ℕ) → (dropped_digits n ≡ 0) ⊎ (2 ^ 52 ≤ significand_of n)
significand_ge n = ⊎_elim (λ h. inl (none_dropped (size n) h)) (λ h. inr (le_trans (reaches n h) (nearest-floor is_odd n (2 ^ dropped_digits n)))) (le_or_lt (size n) 53)

-- a number of at most 53 digits keeps them all
pub short_exact : (n : ℕ) → dropped_digits n ≡ 0 → rounded_units n ≡ n
short_exact n e =
    ap (λ (k : ℕ). nearest_by is_odd n (2 ^ k) * 2 ^ k) e
    ∙ mul-one (nearest_by is_odd n 1)
    ∙ ap (λ (x : ℕ). nearest_by is_odd x 1) (sym (mul-one n))
    ∙ nearest_whole is_odd n 1 (pow_pos 0)

-- at the end of the numbers of 54 + j digits, from the exact half on, the next power of two is nearest: 2^53 - 1 is odd
module _ (n j : ℕ) (l : 2 ^ (54 + j) ≤ n + 2 ^ j) (h : n < 2 ^ (54 + j)) where
  end_digits : dropped_digits n ≡ suc j
  end_digits =
      let p : 2 ^ (54 + j) ≡ 2 ^ 54 * 2 ^ j = pow-add 2 54 j in
      let q : 2 ^ (53 + j) ≡ 2 ^ 53 * 2 ^ j = pow-add 2 53 j in
      let g : 2 ^ (53 + j) ≤ n = omega (arith, pow_pos j) in
      let e : 54 + j ≡ suc (53 + j) = omega arith in
      omega (arith, size_is n (53 + j) g (subst (λ (x : ℕ). n < 2 ^ x) e h))

  end_significand : nearest_by is_odd n (2 ^ suc j) ≡ 2 ^ 53
  end_significand =
      let rest = n - (2 ^ 53 - 1) * 2 ^ suc j in
      let p : 2 ^ (54 + j) ≡ 2 ^ 54 * 2 ^ j = pow-add 2 54 j in
      let u : 2 * 2 ^ j ≡ 2 ^ suc j = pow-sum 1 j (suc j) (omega arith) in
      nearest_at is_odd n (2 ^ suc j) (2 ^ 53 - 1) rest (omega (arith, pow_pos j)) (omega (arith, pow_pos j))
      ∙ order_cases (λ (o : Ordering). rounded true (2 ^ 53 - 1) o ≡ 2 ^ 53) (rest * 2) (2 ^ suc j) (λ g. absurd (omega (arith, pow_pos j))) (λ e. refl) (λ g. refl)

  pub end_rounded : rounded_units n ≡ 2 ^ (54 + j)
  end_rounded = ap (λ (k : ℕ). nearest_by is_odd n (2 ^ k) * 2 ^ k) end_digits ∙ ap (λ (q : ℕ). q * 2 ^ suc j) end_significand ∙ pow-sum 53 (suc j) (54 + j) (omega arith)

round_units : (s : Bool) (n : ℕ) → round binary64 s n (2 ^ 1074) ≡ units binary64 s (significand_of n) (dropped_digits n)
round_units s n =
    let d = 2 ^ 1074 in
    round_is binary64 s n d
    ∙ ap (λ (x : ℕ). units binary64 s (closest (n * d) (d * 2 ^ (size x - 53))) (size x - 53)) (mul-div_cancel n (pow_pos 1074))
    ∙ ap (λ (q : ℕ). units binary64 s q (dropped_digits n))
    (closest_same (n * d) (d * 2 ^ dropped_digits n) n (2 ^ dropped_digits n) (mul-pos (pow_pos 1074) (pow_pos (dropped_digits n))) (pow_pos (dropped_digits n)) (mul_assoc n d (2 ^ dropped_digits n)) ∙ closest_odd n (2 ^ dropped_digits n))

-- ---- where the result is finite

above_limit : (q k : ℕ) → 2046 ≤ k → 2 ^ 52 ≤ q → 2 ^ 2098 ≤ q * 2 ^ k
above_limit q k h l = le_trans (le_of_eq (pow-add 2 52 2046)) (mul-le-mul l (pow_mono h))

below-limit : (q k : ℕ) → k ≤ 2044 → q ≤ 2 ^ 53 → q * 2 ^ k < 2 ^ 2098
below-limit q k h l = lt_of_le_of_lt (mul-le-mul l (pow_mono h)) (lt_of_le_of_lt (le_of_eq (sym (pow-add 2 53 2044))) (pow-lt {i = 2097} {j = 2098} (lit< tt)))

-- in bits and in size alike
finite_below : (q k : ℕ) → q ≤ 2 ^ 53 → (k ≡ 0) ⊎ (2 ^ 52 ≤ q) → k * 2 ^ 52 + q < infinite → q * 2 ^ k < 2 ^ 2098
finite_below q k h (inl z) b = below-limit q k (omega arith) h
finite_below q k h (inr l) b = ⊎_elim (λ g. below-limit q k g h) (λ g. at g) (le_or_lt k 2044)
  where
    at : 2044 < k → q * 2 ^ k < 2 ^ 2098
    at g =
        let e : k ≡ 2045 = omega arith in
        let r : q < 2 ^ 53 = omega arith in
        subst (λ (j : ℕ). q * 2 ^ j < 2 ^ 2098) (sym e) (shl_lt 53 2045 r)

infinite_above : (q k : ℕ) → q ≤ 2 ^ 53 → (k ≡ 0) ⊎ (2 ^ 52 ≤ q) → infinite ≤ k * 2 ^ 52 + q → 2 ^ 2098 ≤ q * 2 ^ k
infinite_above q k h (inl z) b = absurd (no z)
  where
    no : k ≡ 0 → ⊥
    no e = omega arith
infinite_above q k h (inr l) b = ⊎_elim (λ g. at g) (λ g. above_limit q k g l) (le_or_lt k 2045)
  where
    at : k ≤ 2045 → 2 ^ 2098 ≤ q * 2 ^ k
    at g =
        let e : k ≡ 2045 = omega arith in
        let r : 2 ^ 53 ≤ q = omega arith in
        subst (λ (j : ℕ). 2 ^ 2098 ≤ q * 2 ^ j) (sym e) (le_trans (le_of_eq (pow-add 2 53 2045)) (mul-le-mul_right (2 ^ 2045) r))

-- ---- these bits are the rounded value's, and the rounded value is an infinity from `infinite` on

pub packed-bits : (s : Bool) (n : ℕ) → packed n < infinite → to_bits binary64 (round binary64 s n (2 ^ 1074)) ≡ sign_bit s + packed n
packed-bits s n h =
    let q = significand_of n in
    let k = dropped_digits n in
    ap (λ (x : Float). to_bits binary64 x) (round_units s n)
    ∙ value-bits binary64 (units binary64 s q k) s (q * 2 ^ k) (units_val binary64 s q k (finite_below q k (significand-le n) (significand_ge n) h))
    ∙ add_assoc (sign_bit s) ((size (q * 2 ^ k) - 53) * 2 ^ 52) (q * 2 ^ k / 2 ^ (size (q * 2 ^ k) - 53))
    ∙ ap (λ (x : ℕ). sign_bit s + x) (kept_is q k (significand-le n) (significand_ge n))

pub packed-value : (s : Bool) (n : ℕ) → packed n < infinite → of_bits binary64 (sign_bit s + packed n) ≡ round binary64 s n (2 ^ 1074)
packed-value s n h =
    ap (λ (b : ℕ). of_bits binary64 b) (sym (packed-bits s n h)) ∙ of_bits-to_bits binary64 (round binary64 s n (2 ^ 1074)) (round-fits binary64 s n (2 ^ 1074))

units_inf : (s : Bool) (q k : ℕ) → 2 ^ 2098 ≤ q * 2 ^ k → units binary64 s q k ≡ inf s
unfolding units
units_inf s q k h = cond_no (ltb (q * 2 ^ k) (2 ^ 2098)) _ (inf s) (le→nltb (q * 2 ^ k) (2 ^ 2098) h)

pub packed_inf : (s : Bool) (n : ℕ) → infinite ≤ packed n → round binary64 s n (2 ^ 1074) ≡ inf s
packed_inf s n h = round_units s n ∙ units_inf s (significand_of n) (dropped_digits n) (infinite_above (significand_of n) (dropped_digits n) (significand-le n) (significand_ge n) h)

-- below that it is finite, and a whole number of units
pub packed_finite : (s : Bool) (n : ℕ) → packed n < infinite → HasValue (round binary64 s n (2 ^ 1074)) s (rounded_units n) (2 ^ 1074)
packed_finite s n h =
    let q = significand_of n in
    let k = dropped_digits n in
    rw (round_units s n) (units_val binary64 s q k (finite_below q k (significand-le n) (significand_ge n) h))
