-- The size of a mill figure, in range or beyond, and as an i32. The idea: equal fractions have the same nearest number, so the places below 1 may be cut to those
-- that the significand has.
use mathlib.Core.Path.{◌≡◌, sym, ap, ap₂, ◌∙◌}
use mathlib.Core.Bool.{Bool, true, false, cond}
use Prim.Native.Nat.{ℕ, ◌+◌, ◌-◌, ◌*◌, ◌/◌, ◌%◌, ◌^◌, ◌≤◌, ◌<◌, compare, Ordering}
use native.Mathlib.Nat.{le_trans, lt_of_not-le, mul-le-mul_right, le-div_iff_mul-le}
use native.Mathlib.Omega.{arith}
use borrow.Author.Tests.{le-ltb, lt-ltb}
use lib.Dec.{lit<, lit≤}
use lib.Pow.{pow_pos, pow_mono}
use lib.IntN.{ℤ, pos, ◌-ℤ◌}
use mir.Syntax.{w32}
use mir.Val.{SFits, to_z, of_z}
use mir.ValLaws.{to_z_pos}
use Rattle.integers.proofs.Width.{minus-back}
use Rattle.refusal.specs.Outcome.{Outcome, accepted, refused}
use Rattle.level.specs.Double.{signed}
use Rattle.level.proofs.Signs.{nat_abs-signed}
use Rattle.limbs.specs.Nearest.{rounded, nearest_by}
use Rattle.integers.proofs.Naturals.{pow-sum, order_lt, order_scale}
use Rattle.limbs.proofs.Nearest.{nearest_at, nearest-floor, nearest-same}
use Rattle.finish.specs.Figure.{largest_figure, beyond}

-- ---- the rounded size

module _ (tie : ℕ → Bool) where
  -- so many places below 1 that less than half a hundredth is left
  pub hundredths_zero : (m r : ℕ) → m < 2 ^ 53 → 62 < r → 0 ≡ nearest_by tie (m * 100) (2 ^ r)
  hundredths_zero m r h k =
      let p : 2 ^ 63 ≤ 2 ^ r = pow_mono k in
      let a : m * 100 < 2 ^ r = omega arith in
      let b : m * 100 * 2 < 2 ^ r = omega arith in
      let e : m * 100 ≡ 0 * 2 ^ r + m * 100 = omega arith in
      sym (nearest_at tie (m * 100) (2 ^ r) 0 (m * 100) e a ∙ ap (λ (o : Ordering). rounded (tie 0) 0 o) (order_lt (m * 100 * 2) (2 ^ r) b))

  -- otherwise by the last r digits and half of 2^r
  pub hundredths_round : (n r rest half : ℕ) → 0 < r → rest ≡ n % 2 ^ r → half ≡ 2 ^ (r - 1) → rounded (tie (n / 2 ^ r)) (n / 2 ^ r) (compare rest half) ≡ nearest_by tie n (2 ^ r)
  unfolding nearest_by
  hundredths_round n r rest half p e f =
      let w : half * 2 ≡ 2 ^ r = ap (λ (x : ℕ). x * 2) f ∙ pow-sum (r - 1) 1 r (omega arith) in
      ap (λ (o : Ordering). rounded (tie (n / 2 ^ r)) (n / 2 ^ r) o) (order_scale rest half 2 (lit< tt) ∙ ap₂ (λ (x y : ℕ). compare (x * 2) y) e w)

  -- m × 2^x units of 2^-1074 are m / 2^r, with r + x = 1074
  pub hundredths_units : (m x r : ℕ) → r + x ≡ 1074 → nearest_by tie (m * 2 ^ x * 100) (2 ^ 1074) ≡ nearest_by tie (m * 100) (2 ^ r)
  hundredths_units m x r e =
      nearest-same tie (m * 2 ^ x * 100) (2 ^ 1074) (m * 100) (2 ^ r) (pow_pos 1074) (pow_pos r) (products m (2 ^ x) (2 ^ r) ∙ ap (λ (y : ℕ). m * 100 * y) (pow-sum r x 1074 e))
    where
      products : (m x w : ℕ) → m * x * 100 * w ≡ m * 100 * (w * x)
      products m x w = omega arith

  -- a size of 2^52 or more, in units of 2^-1074, is beyond
  pub far : (n : ℕ) → 2 ^ 1126 ≤ n → largest_figure < nearest_by tie (n * 100) (2 ^ 1074)
  far n h = le_trans ((le-div_iff_mul-le (pow_pos 1074)).1 (le_trans (lit≤ tt) (mul-le-mul_right 100 h))) (nearest-floor tie (n * 100) (2 ^ 1074))

-- ---- in range or beyond

-- the answer for a figure
abbrev ranged_figure : ℤ → Outcome ℤ
ranged_figure z = cond (beyond z) (refused 15) (accepted z)

pub figure-beyond : (s : Bool) (n : ℕ) → largest_figure < n → refused 15 ≡ ranged_figure (signed s n)
unfolding beyond
figure-beyond s n h = rw (nat_abs-signed s n, lt-ltb largest_figure n h)

figure_in_range : (s : Bool) (n : ℕ) → n ≤ largest_figure → accepted (signed s n) ≡ ranged_figure (signed s n)
unfolding beyond
figure_in_range s n h = rw (nat_abs-signed s n, le-ltb largest_figure n h)

-- ---- a figure as an i32: z is the size n

module _ (s : Bool) (n : ℕ) where
  pub figure_too_large : (SFits w32 (pos n) → ⊥) → refused 15 ≡ ranged_figure (signed s n)
  figure_too_large h = figure-beyond s n (lt_of_not-le (λ (l : n ≤ largest_figure). h (record { sfits = omega arith })))

  module _ (z : ℤ) (f : SFits w32 (pos n)) (e : z ≡ pos n) where
    pub figure-plus : s ≡ false → accepted (to_z w32 (of_z w32 z)) ≡ ranged_figure (signed s n)
    figure-plus t = rw (e, t) (ap accepted (to_z_pos w32 n f.sfits) ∙ figure_in_range false n (omega (arith, f.sfits)))

    pub figure-minus : s ≡ true → accepted (to_z w32 (of_z w32 (pos 0 -ℤ to_z w32 (of_z w32 z)))) ≡ ranged_figure (signed s n)
    figure-minus t = rw (e, t) (ap accepted (minus-back w32 n f.sfits) ∙ figure_in_range true n (omega (arith, f.sfits)))
