-- Integers in w bits, for any width. The idea: the lower half of the bits are the numbers from 0 up; those below 0 have the upper half, which complemented
-- is their size less one.
use Prim.Native.Nat.{ℕ, suc, ◌-◌, ◌^◌, ◌≤◌, ◌<◌, zero-le}
use mathlib.Core.Path.{◌≡◌, refl, sym, ap, ◌∙◌}
use mathlib.Core.Bool.{true, false}
use native.Mathlib.Omega.{arith}
use borrow.Author.Tests.{le-ltb}
use lib.IntN.{ℤ, pos, negsuc, neg_ℤ, ◌-ℤ◌, nat_abs, +ℤ_idl, -ℤ_one}
use lib.Signed.{lt_z}
use mir.Syntax.{Width}
use mir.Val.{bits, hbits, SFits, to_z, of_z}
use mir.ValLaws.{half_full, to_z_pos, to_z-of_z}
use Rattle.integers.proofs.Laws.{nat_abs-neg}
use Rattle.integers.proofs.Diff.{ints}

module _ (w : Width) where
  pub nat_abs_fits : (z : ℤ) → nat_abs z < 2 ^ hbits w → SFits w z
  nat_abs_fits (pos n) h = record { sfits = h }
  nat_abs_fits (negsuc n) h = record { sfits = omega arith }

  -- a number comes back from its bits
  pub bits_back : (z : ℤ) → nat_abs z < 2 ^ hbits w → to_z w (of_z w z) ≡ z
  bits_back z h = to_z-of_z w z (nat_abs_fits z h)

  -- a size taken from 0
  module _ (n : ℕ) (h : n < 2 ^ hbits w) where
    minus_is : pos 0 -ℤ to_z w n ≡ neg_ℤ (pos n)
    minus_is = ap (λ (z : ℤ). pos 0 -ℤ z) (to_z_pos w n h) ∙ +ℤ_idl (neg_ℤ (pos n))

    pub minus_fits : SFits w (pos 0 -ℤ to_z w n)
    minus_fits = rw minus_is (nat_abs_fits (neg_ℤ (pos n)) (rw (nat_abs-neg (pos n)) h))

    pub minus-back : to_z w (of_z w (pos 0 -ℤ to_z w n)) ≡ neg_ℤ (pos n)
    minus-back = to_z-of_z w (pos 0 -ℤ to_z w n) minus_fits ∙ minus_is

-- ---- what a test of the sign says

pub record BelowZero (w : Width) (z : ℤ) : Type 0 where
  pub is : z ≡ negsuc (nat_abs z - 1)
  pub least : 1 ≤ nat_abs z
  pub most : nat_abs z ≤ 2 ^ hbits w
  pub bits_are : of_z w z ≡ 2 ^ bits w - nat_abs z
  pub complement : to_z w (2 ^ bits w - 1 - of_z w z) ≡ pos (nat_abs z - 1)

pub record FromZero (w : Width) (z : ℤ) : Type 0 where
  pub is : z ≡ pos (nat_abs z)
  pub most : nat_abs z < 2 ^ hbits w
  pub bits_are : of_z w z ≡ nat_abs z
  pub same : to_z w (of_z w z) ≡ pos (nat_abs z)

module _ (w : Width) where
  below_zero_is : (z : ℤ) → SFits w z → lt_z z (pos 0) ≡ true → BelowZero w z
  below_zero_is (pos n) f e = let d : ◌≡◌ {A = ℕ} 0 1 = cc (le-ltb n 0 zero-le) in absurd (omega arith)
  below_zero_is (negsuc n) f e =
      let p : n < 2 ^ hbits w = f.sfits in
      let q : 2 ^ bits w - 1 - of_z w (negsuc n) ≡ n = omega (arith, half_full w p) in
      let o : suc n - 1 ≡ n = omega arith in
      record { is = rw o; least = omega arith; most = p; bits_are = refl; complement = rw (q, o) (to_z_pos w n p) }

  from_zero_is : (z : ℤ) → SFits w z → lt_z z (pos 0) ≡ false → FromZero w z
  from_zero_is (pos n) f e = record { is = refl; most = f.sfits; bits_are = refl; same = to_z-of_z w (pos n) f }
  from_zero_is (negsuc n) f e = let d : ◌≡◌ {A = ℕ} 0 1 = cc in absurd (omega arith)

  -- the bits complemented: the opposite less one
  pub complemented : (z : ℤ) → SFits w z → to_z w (2 ^ bits w - 1 - of_z w z) ≡ neg_ℤ z -ℤ pos 1
  complemented (pos n) f =
      let p : n < 2 ^ hbits w = f.sfits in
      let q : 2 ^ bits w - 1 - n ≡ 2 ^ bits w - suc n = omega arith in
      ap (to_z w) q ∙ to_z-of_z w (negsuc n) (record { sfits = p }) ∙ simp ints (omega arith)
  complemented (negsuc n) f =
      let p : n < 2 ^ hbits w = f.sfits in
      let q : 2 ^ bits w - 1 - (2 ^ bits w - suc n) ≡ n = omega (arith, half_full w p) in
      rw q (to_z_pos w n p ∙ sym (-ℤ_one (pos (suc n))))

  pub below-zero : (z : ℤ) → SFits w z → lt_z (to_z w (of_z w z)) (pos 0) ≡ true → BelowZero w z
  below-zero z f e = below_zero_is z f (rw (to_z-of_z w z f) at e)

  pub from_zero : (z : ℤ) → SFits w z → lt_z (to_z w (of_z w z)) (pos 0) ≡ false → FromZero w z
  from_zero z f e = from_zero_is z f (rw (to_z-of_z w z f) at e)
