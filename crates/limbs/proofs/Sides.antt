-- The side of a value that its nearest number is on. The idea: the nearest number is the quotient, which is below unless the rest is 0, or the next one, which is above.
use mathlib.Core.Path.{◌≡◌, refl, sym, ap, ◌∙◌}
use mathlib.Core.Bool.{Bool, true, false}
use Prim.Native.Nat.{ℕ, suc, ◌+◌, ◌*◌, ◌<◌, compare}
use Prim.Native.Nat as nat
use native.Mathlib.Nat.{mul-lt-mul_of_pos_right}
use native.Mathlib.Omega.{arith}
use borrow.Author.Tests.{lt-ltb, le-ltb, eq-eqb, ne_eqb}
use lib.Dec.{eqb, compare_is_eq, lt→ltb}
use lib.IntN.{ℤ, pos}
use lib.Signed.{◌<ℤ◌, lt_z_yes}
use Rattle.integers.proofs.Naturals.{order_cases}
use Rattle.std.specs.Cmp.{int_ranks, int_cmp_is}
use Rattle.std.specs.Ordering.{MatchOrdering}
use Rattle.std.specs.declared.cmp.Ordering.{Ordering}
use Rattle.std.specs.declared.cmp.Ordering.TheVariants.{Less, Equal, Greater}
use Rattle.limbs.specs.Nearest.{rounded}
use Rattle.limbs.specs.Side.{side_of, Says, side_number, side_said, rounded_side}

-- ---- what a side says

pub side_says : (x y : ℤ) → Says (side_of x y) x y
side_says x y = by (side_of x y) (int_ranks x y)
  where
    by : (d : Ordering) → MatchOrdering d (x <ℤ y) (x ≡ y) (y <ℤ x) → Says d x y
    by Less h = h
    by Equal h = h
    by Greater h = h

-- and no other side says it
pub says_side : (d : Ordering) (x y : ℤ) → Says d x y → side_of x y ≡ d
says_side Less x y h = sym (int_cmp_is x y Less h)
says_side Equal x y h = sym (int_cmp_is x y Equal h)
says_side Greater x y h = sym (int_cmp_is x y Greater h)

-- a side is read back from its number
pub side-back : (d : Ordering) → side_said (side_number d) ≡ d
side-back Less = refl
side-back Equal = refl
side-back Greater = refl

-- ---- of naturals

module _ (x y : ℕ) where
  pub side_less : x < y → side_of (pos x) (pos y) ≡ Less
  side_less h = says_side Less (pos x) (pos y) (lt_z_yes (lt→ltb x y h))

  pub side_equal : x ≡ y → side_of (pos x) (pos y) ≡ Equal
  side_equal e = says_side Equal (pos x) (pos y) (ap pos e)

  pub side_greater : y < x → side_of (pos x) (pos y) ≡ Greater
  side_greater h = says_side Greater (pos x) (pos y) (lt_z_yes (lt→ltb y x h))

-- both times k
pub side-scale : (x y k : ℕ) → 0 < k → side_of (pos x) (pos y) ≡ side_of (pos (x * k)) (pos (y * k))
side-scale x y k p =
    order_cases (λ (o : nat.Ordering). side_of (pos x) (pos y) ≡ side_of (pos (x * k)) (pos (y * k))) x y
    (λ l. side_less x y l ∙ sym (side_less (x * k) (y * k) (mul-lt-mul_of_pos_right l p)))
    (λ e. side_equal x y e ∙ sym (side_equal (x * k) (y * k) (ap (λ (z : ℕ). z * k) e)))
    (λ l. side_greater x y l ∙ sym (side_greater (x * k) (y * k) (mul-lt-mul_of_pos_right l p)))

-- ---- of a quotient q with the remainder r by d, rounded by a rest that is 0 just where r is

module _ (q r d rest : ℕ) (h : r < d) (z : compare rest 0 ≡ compare r 0) where
  zero_alike : eqb rest 0 ≡ eqb r 0
  zero_alike = ap compare_is_eq z

  side_whole : r ≡ 0 → rounded_side q rest q ≡ side_of (pos (q * d)) (pos (q * d + r))
  side_whole e = rw (zero_alike, eq-eqb r 0 e) (sym (side_equal (q * d) (q * d + r) (omega arith)))

  side-floor : 0 < r → rounded_side q rest q ≡ side_of (pos (q * d)) (pos (q * d + r))
  side-floor l = rw (zero_alike, ne_eqb r 0 (λ e. omega arith), le-ltb q q (omega arith)) (sym (side_less (q * d) (q * d + r) (omega arith)))

  side_ceiling : 0 < r → rounded_side q rest (suc q) ≡ side_of (pos (suc q * d)) (pos (q * d + r))
  side_ceiling l = rw (zero_alike, ne_eqb r 0 (λ e. omega arith), lt-ltb q (suc q) (omega arith)) (sym (side_greater (suc q * d) (q * d + r) (omega arith)))

  pub side-rounded : (t : Bool) → rounded_side q rest (rounded t q (compare (r * 2) d)) ≡ side_of (pos (rounded t q (compare (r * 2) d) * d)) (pos (q * d + r))
  side-rounded t =
      order_cases (λ (o : nat.Ordering). rounded_side q rest (rounded t q o) ≡ side_of (pos (rounded t q o * d)) (pos (q * d + r))) (r * 2) d
      (λ l. order_cases (λ (o : nat.Ordering). rounded_side q rest q ≡ side_of (pos (q * d)) (pos (q * d + r))) 0 r side-floor (λ e. side_whole (sym e)) (λ g. absurd (omega arith)))
      (λ e. half t e)
      (λ l. side_ceiling (omega arith))
    where
      half : (t : Bool) → r * 2 ≡ d → rounded_side q rest (rounded t q nat.Ordering.eq) ≡ side_of (pos (rounded t q nat.Ordering.eq * d)) (pos (q * d + r))
      half true e = side_ceiling (omega arith)
      half false e = side-floor (omega arith)
