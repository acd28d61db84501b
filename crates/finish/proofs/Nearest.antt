-- The sum is the double nearest to the kept value among all finite doubles. The idea: every finite double is m × 2^j units with m below 2^53; one with fewer
-- zeros than the sum's unit is smaller than any number of 53 digits of that unit, so farther away, and any other is a whole number of that unit.
use mathlib.Core.Path.{◌≡◌, refl, sym, ap, ap₂, ◌∙◌, subst}
use mathlib.Core.Logic.{◌⊎◌, inl, inr, ⊎_elim}
use mathlib.Core.Bool.{Bool, true, false, not, cond}
use Prim.Native.Nat.{ℕ, suc, ◌+◌, ◌-◌, ◌*◌, ◌%◌, ◌^◌, ◌≤◌, ◌<◌}
use native.Mathlib.Nat.{le_trans, le_of_eq, eq-or-lt_of_le, mul_assoc, mul-le-mul_right, mul-lt-mul_of_pos_right, eq_of_mul-eq-mul_right, le-div_iff_mul-le}
use native.Mathlib.Omega.{arith}
use borrow.Author.Tests.{leb-false}
use lib.Dec.{ltb, eqb}
use lib.Arith.{lt_of_le-ne}
use lib.Pow.{pow-add, pow_pos, pow_mono}
use lib.IntN.{ℤ, pos, negsuc, nat_abs, ◌-ℤ◌}
use lib.Signed.{non_neg}
use lib.Ieee.{Float, nan, inf, fin, binary64, down, of_bits, to_bits, round}
use lib.Ieee.Bits.{of_bits-to_bits, to_bits-lt, is_true}
use lib.Ieee.Fits.{down_pos, round-fits}
use lib.Ieee.Exact.{HasValue}
use lib.Ieee.Scale as Scale
use Rattle.integers.proofs.Diff.{ints}
use Rattle.level.proofs.Descent.{signed-zero}
use Rattle.level.specs.Double.{exponent_field, fraction, significand, magnitude, negative, finite_bits, signed, value}
use Rattle.level.specs.Cut.{abs_diff}
use Rattle.level.proofs.Signs.{sub-signed, nat_abs-signed}
use Rattle.level.proofs.Double.{significand-lt}
use Rattle.level.proofs.Binary64.{finite_binary64, value_binary64}
use Rattle.finish.specs.Sum.{limit, nearest_double, too_large, NearestFinite}
use Rattle.limbs.specs.Nearest.{is_odd, nearest_by}
use Rattle.finish.specs.Side.{double_value}
use Rattle.limbs.specs.Packed.{dropped_digits, significand_of, rounded_units, sign_bit}
use Rattle.integers.proofs.Naturals.{le_or_lt, pow-sum}
use Rattle.limbs.proofs.Nearest.{Halfway, nearest-near, nearest-even}
use Rattle.limbs.proofs.Packed.{reaches, packed-bits}
use Rattle.finish.proofs.Limit.{limit-value, limit-number, limit_finite}

-- ---- the number of units nearest to n among all numbers of units

-- y units are no farther from n than x units, and where x is another number as near, y is even
abbrev Best : ℕ → ℕ → ℕ → ℕ → Type 0
Best n u x y = (abs_diff n (y * u) ≤ abs_diff n (x * u)) × ((x ≡ y → ⊥) → abs_diff n (y * u) ≡ abs_diff n (x * u) → y % 2 ≡ 0)

-- y units are at most half a unit from n
module _ (n u x y : ℕ) (p : 0 < u) (upper : y * u * 2 ≤ n * 2 + u) (lower : n * 2 ≤ y * u * 2 + u) where
  pub near_best : abs_diff n (y * u) ≤ abs_diff n (x * u)
  near_best =
      ⊎_elim
      (λ g. ⊎_elim (λ e. let m : x * u ≡ y * u = ap (λ (z : ℕ). z * u) e in omega arith) (λ l. let m : suc x * u ≤ y * u = mul-le-mul_right u l in omega arith) (eq-or-lt_of_le g))
      (λ l. let m : suc y * u ≤ x * u = mul-le-mul_right u l in omega arith)
      (le_or_lt x y)

  half_best : (x ≡ y → ⊥) → abs_diff n (y * u) ≡ abs_diff n (x * u) → Halfway n u y
  half_best d e =
      ⊎_elim
      (λ g. let m : suc x * u ≤ y * u = mul-le-mul_right u (lt_of_le-ne g d) in inl (omega arith))
      (λ l. let m : suc y * u ≤ x * u = mul-le-mul_right u l in inr (omega arith))
      (le_or_lt x y)

nearest_best : (n u x : ℕ) → 0 < u → Best n u x (nearest_by is_odd n u)
nearest_best n u x h =
    let w = nearest-near is_odd n u h in
    (near_best n u x (nearest_by is_odd n u) h w.0 w.1, λ d e. nearest-even n u h (half_best n u x (nearest_by is_odd n u) h w.0 w.1 d e))

-- ---- among all m × 2^j with m of at most 53 digits

-- a number of fewer digits than n keeps is farther away than 2^52 of the units that n is rounded to
fewer-zeros : (n m j : ℕ) → m < 2 ^ 53 → j < dropped_digits n → abs_diff n (rounded_units n) < abs_diff n (m * 2 ^ j)
fewer-zeros n m j h l =
    let d = dropped_digits n in
    let w : 2 ^ 52 * 2 ^ d ≤ n = (le-div_iff_mul-le (pow_pos d)).0 (reaches n (omega arith)) in
    let v : m * 2 ^ j < 2 ^ 53 * 2 ^ j = mul-lt-mul_of_pos_right h (pow_pos j) in
    let k : 53 + j ≤ 52 + d = omega arith in
    let t : 2 ^ 53 * 2 ^ j ≤ 2 ^ 52 * 2 ^ d = le_trans (le_of_eq (sym (pow-add 2 53 j))) (le_trans (pow_mono k) (le_of_eq (pow-add 2 52 d))) in
    let b = (nearest_best n (2 ^ d) (2 ^ 52) (pow_pos d)).0 in
    less n (m * 2 ^ j) (2 ^ 53 * 2 ^ j) (2 ^ 52 * 2 ^ d) (abs_diff n (significand_of n * 2 ^ d)) v t w b
  where
    less : (n a b c x : ℕ) → a < b → b ≤ c → c ≤ n → x ≤ abs_diff n c → x < abs_diff n a
    less n a b c x h k l m = omega arith

-- a number of as many or more zeros is a number of those units
module _ (n m j : ℕ) (l : dropped_digits n ≤ j) where
  same-unit : m * 2 ^ (j - dropped_digits n) * 2 ^ dropped_digits n ≡ m * 2 ^ j
  same-unit = mul_assoc m (2 ^ (j - dropped_digits n)) (2 ^ dropped_digits n) ∙ ap (λ (x : ℕ). m * x) (pow-sum (j - dropped_digits n) (dropped_digits n) j (omega arith))

  more : Best n (2 ^ dropped_digits n) (m * 2 ^ (j - dropped_digits n)) (significand_of n)
  more = nearest_best n (2 ^ dropped_digits n) (m * 2 ^ (j - dropped_digits n)) (pow_pos (dropped_digits n))

digits-near : (n m j : ℕ) → m < 2 ^ 53 → abs_diff n (rounded_units n) ≤ abs_diff n (m * 2 ^ j)
digits-near n m j h =
    ⊎_elim (λ l. le_trans (more n m j l).0 (le_of_eq (ap (abs_diff n) (same-unit n m j l)))) (λ l. let g = fewer-zeros n m j h l in omega arith) (le_or_lt (dropped_digits n) j)

digits-even : (n m j : ℕ) → m < 2 ^ 53 → (m * 2 ^ j ≡ rounded_units n → ⊥) → abs_diff n (rounded_units n) ≡ abs_diff n (m * 2 ^ j) → significand_of n % 2 ≡ 0
digits-even n m j h d e =
    ⊎_elim
    (λ l. (more n m j l).1 (λ g. d (sym (same-unit n m j l) ∙ ap (λ (x : ℕ). x * 2 ^ dropped_digits n) g)) (e ∙ ap (abs_diff n) (sym (same-unit n m j l))))
    (λ l. absurd (farther (fewer-zeros n m j h l)))
    (le_or_lt (dropped_digits n) j)
  where
    farther : abs_diff n (rounded_units n) < abs_diff n (m * 2 ^ j) → ⊥
    farther g = omega arith

-- ---- with signs

pub same_sign : (s : Bool) (n m : ℕ) → nat_abs (signed s n -ℤ signed s m) ≡ abs_diff n m
same_sign false n m = ap nat_abs (sub-signed n m) ∙ nat_abs-signed (ltb n m) (abs_diff n m)
same_sign true n m = simp ints (omega arith)

pub other_sign : (s : Bool) (n m : ℕ) → nat_abs (signed s n -ℤ signed (not s) m) ≡ n + m
other_sign false n m = simp ints (omega arith)
other_sign true n m = simp ints (omega arith)

by_sign : (s t : Bool) → (t ≡ s) ⊎ (t ≡ not s)
by_sign true true = inl refl
by_sign true false = inr refl
by_sign false true = inr refl
by_sign false false = inl refl

module _ (s : Bool) (n : ℕ) where
  near-signed : (t : Bool) (m j : ℕ) → m < 2 ^ 53 → nat_abs (signed s n -ℤ signed s (rounded_units n)) ≤ nat_abs (signed s n -ℤ signed t (m * 2 ^ j))
  near-signed t m j h =
      le_trans (le_of_eq (same_sign s n (rounded_units n)))
      (⊎_elim
      (λ e. le_trans (digits-near n m j h) (le_of_eq (sym (same_distance e ∙ same_sign s n (m * 2 ^ j)))))
      (λ e. le_trans (digits-near n 0 0 (pow_pos 53)) (le_trans (farther n (m * 2 ^ j)) (le_of_eq (sym (same_distance e ∙ other_sign s n (m * 2 ^ j))))))
      (by_sign s t))
    where
      same_distance : {u : Bool} → t ≡ u → nat_abs (signed s n -ℤ signed t (m * 2 ^ j)) ≡ nat_abs (signed s n -ℤ signed u (m * 2 ^ j))
      same_distance e = ap (λ (x : Bool). nat_abs (signed s n -ℤ signed x (m * 2 ^ j))) e

      farther : (n a : ℕ) → abs_diff n (0 * 2 ^ 0) ≤ n + a
      farther n a = omega arith

  -- a value of the other sign is as near only if it is 0, which has both signs
  signed-zero-same : (t : Bool) → signed t 0 ≡ signed s 0
  signed-zero-same t = signed-zero t ∙ sym (signed-zero s)

  even-signed : (t : Bool) (m j : ℕ) → m < 2 ^ 53 → (signed t (m * 2 ^ j) ≡ signed s (rounded_units n) → ⊥) → nat_abs (signed s n -ℤ signed s (rounded_units n)) ≡ nat_abs (signed s n -ℤ signed t (m * 2 ^ j)) → significand_of n % 2 ≡ 0
  even-signed t m j h d e =
      let e' : abs_diff n (rounded_units n) ≡ nat_abs (signed s n -ℤ signed t (m * 2 ^ j)) = sym (same_sign s n (rounded_units n)) ∙ e in
      ⊎_elim (λ g. same g e') (λ g. other g e') (by_sign s t)
    where
      same : t ≡ s → abs_diff n (rounded_units n) ≡ nat_abs (signed s n -ℤ signed t (m * 2 ^ j)) → significand_of n % 2 ≡ 0
      same g f =
          digits-even n m j h (λ k. d (ap₂ (λ (x : Bool) (y : ℕ). signed x y) g k))
          (f ∙ ap (λ (x : Bool). nat_abs (signed s n -ℤ signed x (m * 2 ^ j))) g ∙ same_sign s n (m * 2 ^ j))

      other : t ≡ not s → abs_diff n (rounded_units n) ≡ nat_abs (signed s n -ℤ signed t (m * 2 ^ j)) → significand_of n % 2 ≡ 0
      other g f =
          let a : abs_diff n (rounded_units n) ≡ n + m * 2 ^ j = f ∙ ap (λ (x : Bool). nat_abs (signed s n -ℤ signed x (m * 2 ^ j))) g ∙ other_sign s n (m * 2 ^ j) in
          let b = digits-near n 0 0 (pow_pos 53) in
          let z : m * 2 ^ j ≡ 0 = omega arith in
          let w : abs_diff n (rounded_units n) ≡ abs_diff n (0 * 2 ^ 0) = omega arith in
          digits-even n 0 0 (pow_pos 53) (λ k. d (ap (signed t) z ∙ signed-zero-same t ∙ ap (signed s) k)) w

-- ---- the bits of the sum

unique : (x : Float) (s t : Bool) (a c : ℕ) → HasValue x s a (2 ^ 1074) → HasValue x t c (2 ^ 1074) → (t ≡ s) × (c ≡ a)
unique nan s t a c h k = absurd h
unique (inf u) s t a c h k = absurd h
unique (fin u m e) s t a c h k = (sym k.0 ∙ h.0, eq_of_mul-eq-mul_right (down e) (down_pos e) c a (sym k.1 ∙ h.1))

-- the last digit of bits is the significand's, and a sign and a field have even places
significand-even : (b : ℕ) → b % 2 ≡ 0 → significand b % 2 ≡ 0
significand-even b e = go (eqb (exponent_field b) 0)
  where
    go : (t : Bool) → cond t (fraction b) (2 ^ 52 + fraction b) % 2 ≡ 0
    go true = omega arith
    go false = omega arith

packed-even : (s : Bool) (d q : ℕ) → q % 2 ≡ 0 → (sign_bit s + (d * 2 ^ 52 + q)) % 2 ≡ 0
packed-even true d q e = omega arith
packed-even false d q e = omega arith

module _ (s : Bool) (n : ℕ) (h : n < limit) where
  abbrev x : Float
  x = round binary64 s n (2 ^ 1074)

  abbrev bits : ℕ
  bits = to_bits binary64 x

  float_back : of_bits binary64 bits ≡ x
  float_back = of_bits-to_bits binary64 x (round-fits binary64 s n (2 ^ 1074))

  bits_finite : finite_bits bits ≡ true
  bits_finite = sym (finite_binary64 bits) ∙ ap Scale.finite float_back ∙ is_true (Scale.finite x) (limit-number s n h)

  bits-value : (negative bits ≡ s) × (magnitude bits ≡ rounded_units n)
  bits-value =
      unique x s (negative bits) (rounded_units n) (magnitude bits) (limit-value s n h)
      (subst (λ (y : Float). HasValue y (negative bits) (magnitude bits) (2 ^ 1074)) float_back (value_binary64 bits (to_bits-lt binary64 x (round-fits binary64 s n (2 ^ 1074))) bits_finite))

  bits-even : significand_of n % 2 ≡ 0 → significand bits % 2 ≡ 0
  bits-even e = significand-even bits (ap (λ (b : ℕ). b % 2) (packed-bits s n (limit_finite n h)) ∙ packed-even s (dropped_digits n) (significand_of n) e)

pub size_sign : (k : ℤ) → k ≡ signed (not (non_neg k)) (nat_abs k)
size_sign (pos n) = refl
size_sign (negsuc n) = refl

pub nearest-value : (k : ℤ) → too_large k ≡ false → double_value (nearest_double k) ≡ signed (not (non_neg k)) (rounded_units (nat_abs k))
unfolding too_large nearest_double
nearest-value k e =
    let v = bits-value (not (non_neg k)) (nat_abs k) (leb-false limit (nat_abs k) e) in
    ap₂ (λ (t : Bool) (a : ℕ). signed t a) v.0 v.1

pub nearest_double_lem : (k : ℤ) → too_large k ≡ false → NearestFinite k (to_bits binary64 (nearest_double k))
unfolding too_large nearest_double
nearest_double_lem k e =
    let s = not (non_neg k) in
    let n = nat_abs k in
    let h : n < limit = leb-false limit n e in
    let b = bits s n h in
    let v : value b ≡ signed s (rounded_units n) = nearest-value k e in
    let d : nat_abs (k -ℤ value b) ≡ nat_abs (signed s n -ℤ signed s (rounded_units n)) = ap₂ (λ (x y : ℤ). nat_abs (x -ℤ y)) (size_sign k) v in
    let f : (c : ℕ) → nat_abs (signed s n -ℤ value c) ≡ nat_abs (k -ℤ value c) = λ c. ap (λ (x : ℤ). nat_abs (x -ℤ value c)) (sym (size_sign k)) in
    record {
      is_finite = bits_finite s n h;
      near = λ c g. le_trans (le_of_eq d) (le_trans (near-signed s n (negative c) (significand c) (exponent_field c - 1) (significand-lt c)) (le_of_eq (f c)));
      even = λ c g o q. bits-even s n h (even-signed s n (negative c) (significand c) (exponent_field c - 1) (significand-lt c) (λ r. o (r ∙ sym v)) (sym d ∙ q ∙ sym (f c)));
    }
