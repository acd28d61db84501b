-- The side of a sum. The idea: the sum's value is its size's with the sign of the kept value, and the sides of two numbers are opposite where both are negated.
use mathlib.Core.Path.{◌≡◌, refl, sym, ap, ap₂, ◌∙◌, subst}
use mathlib.Core.Bool.{Bool, true, false, not}
use mathlib.Core.Logic.{◌↔◌, ⊎_elim}
use Prim.Native.Nat.{ℕ, zero, suc, ◌+◌, ◌-◌, ◌*◌, ◌^◌, ◌<◌, ◌≤◌, suc-le-suc}
use native.Mathlib.Nat.{le_of_eq, le_of_lt, lt_of_lt_of_le, lt_of_le_of_lt, le_of_suc-le-suc, not-suc-le-zero, mul-le-mul}
use native.Mathlib.Omega.{arith}
use borrow.Author.Tests.{lt-leb, eqb-false, not-true}
use lib.Dec.{T, eqb, ltb→lt, lt→ltb, lit≤, lit<}
use lib.Pow.{pow_mono}
use lib.IntN.{ℤ, pos, negsuc, neg_ℤ, nat_abs, ◌-ℤ◌}
use lib.Signed.{lt_z, lt_z_yes, ◌<ℤ◌, non_neg}
use lib.Ieee.{Float, binary64, size, to_bits}
use lib.Ieee.Digits.{size-le}
use Rattle.integers.proofs.Naturals.{le_or_lt}
use Rattle.integers.proofs.Laws.{apart_none, apart_zero}
use Rattle.level.specs.Double.{exponent_field, negative, finite_bits, magnitude, signed, value}
use Rattle.level.proofs.Signs.{nat_abs-signed}
use Rattle.level.proofs.Double.{significand-lt}
use Rattle.std.specs.Ordering.{ordering_reverse}
use Rattle.std.specs.declared.cmp.Ordering.{Ordering}
use Rattle.std.specs.declared.cmp.Ordering.TheVariants.{Less, Equal, Greater}
use Rattle.limbs.specs.Packed.{dropped_digits, significand_of, rounded_units, infinite, sign_bit}
use Rattle.limbs.specs.Side.{side_of, packed_side, Says, side_number, side_said}
use Rattle.limbs.proofs.Sides.{side_says, says_side, side-back, side_equal, side_greater}
use Rattle.limbs.proofs.Packed.{none_dropped, significand_ge, short_exact, end_rounded, packed-bits}
use Rattle.finish.specs.Sum.{limit, nearest_double, too_large}
use Rattle.finish.specs.Side.{double_value, side, signed_side}
use Rattle.finish.proofs.Limit.{limit_finite, limit_inf, inf_bits}
use Rattle.finish.proofs.Nearest.{size_sign, nearest-value, nearest_double_lem}

-- ---- of two numbers that are negated

less_negated : (x y : ℤ) → T (lt_z x y) → T (lt_z (neg_ℤ y) (neg_ℤ x))
less_negated (pos a) (pos zero) t = absurd (not-suc-le-zero (ltb→lt a 0 t))
less_negated (pos zero) (pos (suc b)) t = tt
less_negated (pos (suc a)) (pos (suc b)) t = lt→ltb a b (le_of_suc-le-suc (ltb→lt (suc a) (suc b) t))
less_negated (pos a) (negsuc b) t = absurd t
less_negated (negsuc a) (pos zero) t = lt→ltb 0 (suc a) (omega arith)
less_negated (negsuc a) (pos (suc b)) t = tt
less_negated (negsuc a) (negsuc b) t = lt→ltb (suc b) (suc a) (suc-le-suc (ltb→lt b a t))

pub side-negated : (x y : ℤ) → side_of (neg_ℤ x) (neg_ℤ y) ≡ ordering_reverse (side_of x y)
side-negated x y = says_side (ordering_reverse (side_of x y)) (neg_ℤ x) (neg_ℤ y) (by (side_of x y) (side_says x y))
  where
    by : (d : Ordering) → Says d x y → Says (ordering_reverse d) (neg_ℤ x) (neg_ℤ y)
    by Less h = lt_z_yes (less_negated x y h.lt)
    by Equal e = ap neg_ℤ e
    by Greater h = lt_z_yes (less_negated y x h.lt)

side-signed : (s : Bool) (m n : ℕ) → side_of (signed s m) (signed s n) ≡ signed_side s (side_of (pos m) (pos n))
side-signed false m n = refl
side-signed true m n = side-negated (pos m) (pos n)

-- ---- of the sum of a kept value

pub nearest-side : (k : ℤ) → too_large k ≡ false → side (nearest_double k) k ≡ signed_side (not (non_neg k)) (packed_side (nat_abs k))
unfolding side
nearest-side k e =
    ap₂ side_of (nearest-value k e) (size_sign k) ∙ side-signed (not (non_neg k)) (rounded_units (nat_abs k)) (nat_abs k)

-- ---- what it says

-- Card 2's numbers: -1, 0 and 1 where the double's value is below, equal to and above k, and nowhere else
pub side-number : (x : Float) (k : ℤ) → ((side_number (side x k) ≡ neg_ℤ (pos 1)) ↔ (double_value x <ℤ k)) × ((side_number (side x k) ≡ pos 0) ↔ (double_value x ≡ k)) × ((side_number (side x k) ≡ pos 1) ↔ (k <ℤ double_value x))
unfolding side
side-number x k = (only Less, only Equal, only Greater)
  where
    only : (d : Ordering) → (side_number (side_of (double_value x) k) ≡ side_number d) ↔ Says d (double_value x) k
    only d = (
      λ e. subst (λ (t : Ordering). Says t (double_value x) k) (sym (side-back (side_of (double_value x) k)) ∙ ap side_said e ∙ side-back d) (side_says (double_value x) k),
      λ h. ap side_number (says_side d (double_value x) k h),
    )

-- ---- sums that were not rounded

finite_small : (c : ℕ) → finite_bits c ≡ true → magnitude c < limit
finite_small c f =
    let g : exponent_field c ≡ 2047 → ⊥ = eqb-false (exponent_field c) 2047 (not-true (eqb (exponent_field c) 2047) f) in
    let e : exponent_field c - 1 ≤ 2045 = omega arith in
    lt_of_le_of_lt (mul-le-mul (le_of_suc-le-suc (significand-lt c)) (pow_mono e)) (lit< tt)

-- a kept value that is a double's
pub exact_side : (k : ℤ) (c : ℕ) → finite_bits c ≡ true → value c ≡ k → side (nearest_double k) k ≡ Equal
unfolding side too_large
exact_side k c f e =
    let size_is : nat_abs k ≡ magnitude c = ap nat_abs (sym e) ∙ nat_abs-signed (negative c) (magnitude c) in
    let t : too_large k ≡ false = lt-leb limit (nat_abs k) (lt_of_le_of_lt (le_of_eq size_is) (finite_small c f)) in
    let n : nat_abs (k -ℤ double_value (nearest_double k)) ≤ nat_abs (k -ℤ value c) = (nearest_double_lem k t).near c f in
    let z : nat_abs (k -ℤ value c) ≡ 0 = apart_none k (value c) (sym e) in
    says_side Equal (double_value (nearest_double k)) k (sym (apart_zero k (double_value (nearest_double k)) (omega arith)))

-- a kept value that drops no digit
whole_side : (k : ℤ) → too_large k ≡ false → dropped_digits (nat_abs k) ≡ 0 → side (nearest_double k) k ≡ Equal
whole_side k e d = nearest-side k e ∙ ap (signed_side (not (non_neg k))) (side_equal _ _ (short_exact (nat_abs k) d)) ∙ same (not (non_neg k))
  where
    same : (s : Bool) → signed_side s Equal ≡ Equal
    same true = refl
    same false = refl

-- one of at most 53 digits, 0 among them
pub short_side : (k : ℤ) → nat_abs k < 2 ^ 53 → side (nearest_double k) k ≡ Equal
unfolding too_large
short_side k h = whole_side k (lt-leb limit (nat_abs k) (lt_of_lt_of_le h (lit≤ tt))) (none_dropped (size (nat_abs k)) (size-le (nat_abs k) 53 h))

-- a subnormal sum: its exponent field is 0
pub subnormal_side : (k : ℤ) → exponent_field (to_bits binary64 (nearest_double k)) ≡ 0 → side (nearest_double k) k ≡ Equal
unfolding too_large nearest_double
subnormal_side k f = ⊎_elim (λ h. absurd (large h)) (λ h. small h) (le_or_lt limit (nat_abs k))
  where
    field_of : (t : Bool) (d q : ℕ) → 2 ^ 52 ≤ q → d * 2 ^ 52 + q ≤ infinite → exponent_field (sign_bit t + (d * 2 ^ 52 + q)) ≡ 0 → ⊥
    field_of true d q l h g = omega arith
    field_of false d q l h g = omega arith

    large : limit ≤ nat_abs k → ⊥
    large h = field_of (not (non_neg k)) 2046 (2 ^ 52) (lit≤ tt) (lit≤ tt) (ap exponent_field (sym (inf_bits (not (non_neg k)))) ∙ ap (λ (x : Float). exponent_field (to_bits binary64 x)) (sym (limit_inf (not (non_neg k)) (nat_abs k) h)) ∙ f)

    small : nat_abs k < limit → side (nearest_double k) k ≡ Equal
    small h =
        let m = limit_finite (nat_abs k) h in
        whole_side k (lt-leb limit (nat_abs k) h)
        (⊎_elim (λ d. d) (λ l. absurd (field_of (not (non_neg k)) (dropped_digits (nat_abs k)) (significand_of (nat_abs k)) l (le_of_lt m) (ap exponent_field (sym (packed-bits (not (non_neg k)) (nat_abs k) m)) ∙ f))) (significand_ge (nat_abs k)))

-- a kept value at the end of a binade, from the exact half on: the sum is the next power of two, beyond it in size
pub binade_side : (k : ℤ) (j : ℕ) → too_large k ≡ false → 2 ^ (54 + j) ≤ nat_abs k + 2 ^ j → nat_abs k < 2 ^ (54 + j)
    → (double_value (nearest_double k) ≡ signed (not (non_neg k)) (2 ^ (54 + j))) × (side (nearest_double k) k ≡ signed_side (not (non_neg k)) Greater)
binade_side k j e l h =
    let r = end_rounded (nat_abs k) j l h in (
      nearest-value k e ∙ ap (signed (not (non_neg k))) r,
      nearest-side k e ∙ ap (signed_side (not (non_neg k))) (ap (λ (x : ℕ). side_of (pos x) (pos (nat_abs k))) r ∙ side_greater (2 ^ (54 + j)) (nat_abs k) h),
    )
