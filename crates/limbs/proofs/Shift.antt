-- A number shifted left, by whole limbs and by digits. The idea: each limb times 2^d is split at 40 digits; the low part stays, the high part joins the next limb.
use mathlib.Core.Path.{◌≡◌, sym, ap, ap₂, ◌∙◌}
use Prim.Native.Nat.{ℕ, suc, ◌+◌, ◌-◌, ◌*◌, ◌/◌, ◌%◌, ◌^◌, ◌≤◌, ◌<◌}
use native.Mathlib.Nat.{le_trans, le_of_eq, lt_of_lt_of_le, lt_of_not-le, not-le_of_lt, mul_assoc, add-zero, mul-le-mul_right, mul-mod_left, mod-lt, mod-eq_of_lt, le-add_right, mul-div-mul_right}
use native.Mathlib.Omega.{arith}
use mathlib.Core.List.{List, [], ◌∷◌}
use lib.ListN.{get_or}
use lib.Count.{count_leading_zeros, leading_top}
use lib.Pow.{pow-add, pow_pos, pow_mono, shr_lt, shl_lt, shl-shr, mod-pow-add}
use Rattle.integers.proofs.Naturals.{pow-sum}
use Rattle.limbs.specs.Limbs.{value_of, Reduced, ShiftedLeft}

-- ---- by d digits, fewer than 40: of x * 2^d the last 40 digits stay in the limb, and the others leave it

module _ (x d : ℕ) (h : d < 40) where
  whole : 2 ^ (40 - d) * 2 ^ d ≡ 2 ^ 40
  whole = pow-sum (40 - d) d 40 (omega arith)

  pub carried_out : x / 2 ^ (40 - d) ≡ x * 2 ^ d / 2 ^ 40
  carried_out = sym (mul-div-mul_right x (2 ^ (40 - d)) (pow_pos d)) ∙ ap (λ (y : ℕ). x * 2 ^ d / y) whole

  carried_out_lt : x < 2 ^ 40 → x * 2 ^ d / 2 ^ 40 < 2 ^ d
  carried_out_lt k = let e : 40 + d ≡ d + 40 = omega arith in shr_lt d 40 (lt_of_lt_of_le (shl_lt 40 d k) (le_of_eq (ap (λ (y : ℕ). 2 ^ y) e)))

  -- what stays ends in d zeros, and leaves room for them
  stays_lt : x * 2 ^ d % 2 ^ 40 + 2 ^ d ≤ 2 ^ 40
  stays_lt =
      let e : 40 - d + d ≡ 40 = omega arith in
      let l : suc (x % 2 ^ (40 - d)) ≤ 2 ^ (40 - d) = mod-lt x (pow_pos (40 - d)) in
      let m = mul-le-mul_right (2 ^ d) l in
      let w = whole in
      let s : x * 2 ^ d % 2 ^ 40 ≡ x % 2 ^ (40 - d) * 2 ^ d =
      ap (λ (k : ℕ). x * 2 ^ d % 2 ^ k) (sym e) ∙ mod-pow-add (x * 2 ^ d) (40 - d) d
      ∙ ap₂ (λ (y z : ℕ). y % 2 ^ (40 - d) * 2 ^ d + z) (shl-shr x d) (mul-mod_left x (2 ^ d)) ∙ add-zero _ in
      omega arith

-- a shift of 64 bits drops no digit that stays
pub last_same : (y : ℕ) → y % 2 ^ 64 % 2 ^ 40 ≡ y % 2 ^ 40
last_same y = omega arith

-- a limb with what comes from the one below it has 40 digits
limb_lt : (x y d : ℕ) → d < 40 → y < 2 ^ 40 → x * 2 ^ d % 2 ^ 40 + y * 2 ^ d / 2 ^ 40 < 2 ^ 40
limb_lt x y d h k = let a = stays_lt x d h in let b = carried_out_lt y d h k in omega arith

-- all four, the first with nothing from below
limbs_joined : (p q r s m n o i j k : ℕ) → m + 2 ^ 40 * i ≡ p → n + 2 ^ 40 * j ≡ q → o + 2 ^ 40 * k ≡ r
    → m + 0 + 2 ^ 40 * (n + i) + 2 ^ 80 * (o + j) + 2 ^ 120 * (s + k) ≡ p + 2 ^ 40 * q + 2 ^ 80 * r + 2 ^ 120 * s
limbs_joined p q r s m n o i j k e f g = omega arith

limb_parts : (x : ℕ) → x % 2 ^ 40 + 2 ^ 40 * (x / 2 ^ 40) ≡ x
limb_parts x = omega arith

multiplied : (a b c d w : ℕ) → a * w + 2 ^ 40 * (b * w) + 2 ^ 80 * (c * w) + 2 ^ 120 * (d * w) ≡ (a + 2 ^ 40 * b + 2 ^ 80 * c + 2 ^ 120 * d) * w
multiplied a b c d w = omega arith

-- a limb x shifted left by d, with what comes from the limb y below it
abbrev pub shifted_limb : ℕ → ℕ → ℕ → ℕ
shifted_limb x y d = x * 2 ^ d % 2 ^ 40 + y * 2 ^ d / 2 ^ 40

pub digits_shifted : (a : List ℕ) (d : ℕ) → d < 40 → Reduced a → get_or a 3 0 < 2 ^ (40 - d)
    → ShiftedLeft a (shifted_limb (get_or a 0 0) 0 d ∷ shifted_limb (get_or a 1 0) (get_or a 0 0) d ∷ shifted_limb (get_or a 2 0) (get_or a 1 0) d ∷ shifted_limb (get_or a 3 0) (get_or a 2 0) d ∷ []) d
    × (get_or a 3 0 * 2 ^ d ≤ shifted_limb (get_or a 3 0) (get_or a 2 0) d)
digits_shifted a d h g l =
    let w = get_or a 0 0 in
    let x = get_or a 1 0 in
    let y = get_or a 2 0 in
    let z = get_or a 3 0 in
    let low = g.low_limbs in
    let full : 40 - d + d ≡ 40 = omega arith in
    let last : z * 2 ^ d % 2 ^ 40 ≡ z * 2 ^ d = mod-eq_of_lt (lt_of_lt_of_le (shl_lt (40 - d) d l) (le_of_eq (ap (λ (k : ℕ). 2 ^ k) full))) in
    let none : 0 * 2 ^ d / 2 ^ 40 ≡ 0 = omega arith in (
      record {
        reduced = record { low_limbs = record { limb0 = limb_lt w 0 d h (omega arith); limb1 = limb_lt x w d h low.limb0; limb2 = limb_lt y x d h low.limb1 }; limb3 = limb_lt z y d h low.limb2 };
        same =
            ap₂ (λ (f e : ℕ). w * 2 ^ d % 2 ^ 40 + f + 2 ^ 40 * shifted_limb x w d + 2 ^ 80 * shifted_limb y x d + 2 ^ 120 * (e + y * 2 ^ d / 2 ^ 40)) none last
            ∙ limbs_joined (w * 2 ^ d) (x * 2 ^ d) (y * 2 ^ d) (z * 2 ^ d) _ _ _ _ _ _ (limb_parts (w * 2 ^ d)) (limb_parts (x * 2 ^ d)) (limb_parts (y * 2 ^ d))
            ∙ multiplied w x y z (2 ^ d);
      },
      le_trans (le_of_eq (sym last)) (le-add_right (z * 2 ^ d % 2 ^ 40) (y * 2 ^ d / 2 ^ 40)),
    )

-- shifted twice
pub shifted_on : (a b r : List ℕ) (s d : ℕ) → ShiftedLeft a b s → ShiftedLeft b r d → ShiftedLeft a r (s + d)
shifted_on a b r s d p q =
    record {
      reduced = q.reduced;
      same = q.same ∙ ap (λ (x : ℕ). x * 2 ^ d) p.same ∙ mul_assoc (value_of a) (2 ^ s) (2 ^ d) ∙ ap (λ (x : ℕ). value_of a * x) (sym (pow-add 2 s d));
    }

-- ---- until the leading digit is set

-- how many zeros stand above the leading digit of a limb x that is not 0, of its 40 places
module _ (x : ℕ) (p : 0 < x) (l : x < 2 ^ 40) where
  abbrev leading_zeros : ℕ
  leading_zeros = count_leading_zeros 64 x

  leading_digit : (j : ℕ) × (leading_zeros + suc j ≡ 64) × (2 ^ j ≤ x) × (x < 2 ^ suc j)
  leading_digit = leading_top 64 x p (lt_of_lt_of_le l (pow_mono {i = 40} {j = 64} (omega arith)))

  leading_digit-lt : leading_digit.0 < 40
  leading_digit-lt = lt_of_not-le (λ (g : 40 ≤ leading_digit.0). not-le_of_lt l (le_trans (pow_mono g) leading_digit.2))

  pub zeros_ge : 24 ≤ leading_zeros
  zeros_ge = omega (arith, leading_digit.1, leading_digit-lt)

  pub digits_fit : x < 2 ^ (40 - (leading_zeros - 24))
  digits_fit = let q : suc leading_digit.0 ≡ 40 - (leading_zeros - 24) = omega (arith, leading_digit.1, leading_digit-lt) in lt_of_lt_of_le leading_digit.3 (le_of_eq (ap (λ (k : ℕ). 2 ^ k) q))

  pub leads : 2 ^ 39 ≤ x * 2 ^ (leading_zeros - 24)
  leads =
      let e : 39 ≡ leading_digit.0 + (leading_zeros - 24) = omega (arith, leading_digit.1, leading_digit-lt) in
      le_trans (le_of_eq (ap (λ (k : ℕ). 2 ^ k) e ∙ pow-add 2 leading_digit.0 (leading_zeros - 24))) (mul-le-mul_right (2 ^ (leading_zeros - 24)) leading_digit.2)
