-- Integers by sign and size.
use mathlib.Core.Path.{◌≡◌, refl, ◌∙◌}
use mathlib.Core.Bool.{Bool, true, false, cond}
use Prim.Native.Nat.{ℕ, zero, suc, ◌+◌, ◌-◌, ◌*◌}
use native.Mathlib.Nat.{add-zero, sub-zero}
use native.Mathlib.Omega.{arith}
use lib.Dec.{ltb, leb-suc-zero}
use lib.IntN.{pos, negsuc, nat_abs, sub_ℕ, ◌-ℤ◌, ◌*ℤ◌}
use borrow.Author.Tests.{ltb-true, ltb-false}
use Rattle.integers.proofs.Laws.{nat_abs-neg, negℤ_*ℤ}
use Rattle.level.specs.Double.{signed}
use Rattle.level.specs.Cut.{abs_diff}

pub nat_abs-signed : (g : Bool) (n : ℕ) → nat_abs (signed g n) ≡ n
nat_abs-signed true n = nat_abs-neg (pos n)
nat_abs-signed false n = refl

pub signed_mul : (g : Bool) (n u : ℕ) → signed g n *ℤ pos u ≡ signed g (n * u)
signed_mul true n u = negℤ_*ℤ (pos n) (pos u)
signed_mul false n u = refl

-- a difference of two sizes has the size of their distance
pub sub-signed : (x y : ℕ) → pos x -ℤ pos y ≡ signed (ltb x y) (abs_diff x y)
sub-signed x y = sub_is y ∙ by (ltb x y) refl
  where
    sub_is : (y : ℕ) → pos x -ℤ pos y ≡ sub_ℕ x y
    sub_is zero = simp (leb-suc-zero, add-zero, sub-zero)
    sub_is (suc y) = refl

    by : (b : Bool) → ltb x y ≡ b → cond b (negsuc (y - suc x)) (pos (x - y)) ≡ signed b (abs_diff x y)
    by true e =
        let h = ltb-true x y e in
        let k : x - y + (y - x) ≡ suc (y - suc x) = omega arith in
        rw k
    by false e =
        let h = ltb-false x y e in
        let k : x - y + (y - x) ≡ x - y = omega arith in
        rw k
