-- The 53 leading digits of four limbs. The idea: below them only the order beside a half counts, and 28 digits, the last of them set where any lower one is,
-- have the same order as all 107.
use mathlib.Core.Path.{◌≡◌, sym, ap, ap₂, ◌∙◌}
use Prim.Native.Nat.{ℕ, suc, ◌+◌, ◌*◌, ◌/◌, ◌%◌, ◌^◌, ◌≤◌, ◌<◌, compare}
use native.Mathlib.Nat.{le_trans, le_of_eq, lt_of_lt_of_le, le-add_left, mul_comm, mul-le-mul_right, mul-le-mul_left}
use native.Mathlib.Omega.{arith}
use mathlib.Core.List.{List}
use lib.IntN.{pos}
use lib.ListN.{get_or}
use lib.Arith.{digits_mod}
use lib.Pow.{pow-add, shr_lt}
use Rattle.limbs.specs.Limbs.{value_of, LowReduced, Reduced}
use Rattle.limbs.specs.Nearest.{is_odd, rounded}
use Rattle.limbs.specs.Packed.{leading_digits}
use Rattle.limbs.specs.Side.{side_of, rounded_side}
use Rattle.limbs.proofs.Nearest.{nearest_at, nearest_ceiling}
use Rattle.limbs.proofs.Sides.{side-rounded}

-- the 53 leading digits
abbrev pub lead : List ℕ → ℕ
lead a = get_or a 3 0 * 8192 + get_or a 2 0 / 2 ^ 27

-- the 107 others
abbrev others : List ℕ → ℕ
others a = get_or a 0 0 + 2 ^ 40 * get_or a 1 0 + 2 ^ 80 * (get_or a 2 0 % 2 ^ 27)

leading_parts : (a b c d : ℕ) → a + 2 ^ 40 * b + 2 ^ 80 * c + 2 ^ 120 * d ≡ (d * 8192 + c / 2 ^ 27) * 2 ^ 107 + (a + 2 ^ 40 * b + 2 ^ 80 * (c % 2 ^ 27))
leading_parts a b c d = omega arith

-- each limb is a variable, since `omega` stops at numbers of more than 38 digits
three-lt : (a : List ℕ) → LowReduced a → get_or a 0 0 + 2 ^ 40 * get_or a 1 0 + 2 ^ 80 * get_or a 2 0 < 2 ^ 120
three-lt a l = omega (arith, l.limb0, l.limb1, l.limb2)

two-lt : (a b : ℕ) → a < 2 ^ 40 → b < 2 ^ 40 → a + 2 ^ 40 * b < 2 ^ 80
two-lt a b h k = omega arith

rest_lt : (x c : ℕ) → x < 2 ^ 80 → x + 2 ^ 80 * (c % 2 ^ 27) < 2 ^ 107
rest_lt x c h = omega arith

module _ (a : List ℕ) (n : Reduced a) where
  low-lt : get_or a 0 0 + 2 ^ 40 * get_or a 1 0 < 2 ^ 80
  low-lt = two-lt (get_or a 0 0) (get_or a 1 0) n.low_limbs.limb0 n.low_limbs.limb1

  others_lt : others a < 2 ^ 107
  others_lt = rest_lt (get_or a 0 0 + 2 ^ 40 * get_or a 1 0) (get_or a 2 0) low-lt

  lead_same : value_of a ≡ lead a * 2 ^ 107 + others a
  lead_same = leading_parts (get_or a 0 0) (get_or a 1 0) (get_or a 2 0) (get_or a 3 0)

  remainder : others a ≡ value_of a % 2 ^ 107
  remainder = sym (ap (λ (x : ℕ). x % 2 ^ 107) lead_same ∙ digits_mod (lead a) others_lt)

  pub lead_nearest : rounded (is_odd (lead a)) (lead a) (compare (value_of a % 2 ^ 107 * 2) (2 ^ 107)) ≡ leading_digits a
  lead_nearest =
      ap (λ (x : ℕ). rounded (is_odd (lead a)) (lead a) (compare (x * 2) (2 ^ 107))) (sym remainder)
      ∙ sym (nearest_at is_odd (value_of a) (2 ^ 107) (lead a) (others a) lead_same others_lt)

  pub lead_side : (rest : ℕ) → compare rest 0 ≡ compare (value_of a % 2 ^ 107) 0 → rounded_side (lead a) rest (leading_digits a) ≡ side_of (pos (leading_digits a * 2 ^ 107)) (pos (value_of a))
  lead_side rest z =
      let e : rounded (is_odd (lead a)) (lead a) (compare (others a * 2) (2 ^ 107)) ≡ leading_digits a = sym (nearest_at is_odd (value_of a) (2 ^ 107) (lead a) (others a) lead_same others_lt) in
      ap (rounded_side (lead a) rest) (sym e)
      ∙ side-rounded (lead a) (others a) (2 ^ 107) rest others_lt (z ∙ ap (λ (x : ℕ). compare x 0) (sym remainder)) (is_odd (lead a))
      ∙ ap₂ (λ (x y : ℕ). side_of (pos (x * 2 ^ 107)) (pos y)) e (sym lead_same)

-- ---- how large a number is, from its last limb

next_limb : (x d : ℕ) → x < 2 ^ 120 → x + 2 ^ 120 * d < suc d * 2 ^ 120
next_limb x d h = omega arith

pub value-lt : (a : List ℕ) (k : ℕ) → Reduced a → get_or a 3 0 < 2 ^ k → value_of a < 2 ^ (k + 120)
value-lt a k n h =
    lt_of_lt_of_le (next_limb _ (get_or a 3 0) (three-lt a n.low_limbs))
    (le_trans (mul-le-mul_right (2 ^ 120) h) (le_of_eq (sym (pow-add 2 k 120))))

pub value_ge : (a : List ℕ) (k : ℕ) → 2 ^ k ≤ get_or a 3 0 → 2 ^ (k + 120) ≤ value_of a
value_ge a k h =
    le_trans (le_of_eq (pow-add 2 k 120 ∙ mul_comm (2 ^ k) (2 ^ 120)))
    (le_trans (mul-le-mul_left (2 ^ 120) h) (le-add_left (2 ^ 120 * get_or a 3 0) (get_or a 0 0 + 2 ^ 40 * get_or a 1 0 + 2 ^ 80 * get_or a 2 0)))

pub leading_le : (a : List ℕ) → Reduced a → leading_digits a ≤ 2 ^ 53
leading_le a n = le_trans (nearest_ceiling is_odd (value_of a) (2 ^ 107)) (shr_lt 53 107 (value-lt a 40 n n.limb3))
