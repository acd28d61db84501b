-- Natural numbers: a sum of exponents; and the order of two numbers, by the three cases that it has (`order_cases`).
use mathlib.Core.Path.{◌≡◌, refl, sym, ap, ◌∙◌}
use mathlib.Core.Bool.{not}
use mathlib.Core.Logic.{◌⊎◌, inl, inr}
use Prim.Native.Nat.{ℕ, ◌+◌, ◌*◌, ◌^◌, ◌≤◌, ◌<◌, compare, Ordering}
use native.Mathlib.Nat.{mul-lt-mul_of_pos_right}
use native.Mathlib.Decide.{dec_le}
use native.Mathlib.Omega.{arith}
use lib.Dec.{T, is_le, compare_is_eq, leb→le, nleb→lt, eqb→eq}
use lib.Arith.{lt_of_le-ne}
use lib.Pow.{pow-add}
use lib.Ieee.Fits.{eq→eqb}

-- a sum of exponents
pub pow-sum : (i j k : ℕ) → i + j ≡ k → 2 ^ i * 2 ^ j ≡ 2 ^ k
pow-sum i j k e = sym (pow-add 2 i j) ∙ ap (λ (n : ℕ). 2 ^ n) e

-- ---- the order of two numbers

pub order_cases : (P : Ordering → Type 0) (a b : ℕ) → (a < b → P Ordering.lt) → (a ≡ b → P Ordering.eq) → (b < a → P Ordering.gt) → P (compare a b)
order_cases P a b less same more = go (compare a b) (leb→le a b) (nleb→lt a b) (eqb→eq a b) eq→eqb
  where
    go : (o : Ordering) → (T (is_le o) → a ≤ b) → (T (not (is_le o)) → b < a) → (T (compare_is_eq o) → a ≡ b) → (a ≡ b → T (compare_is_eq o)) → P o
    go Ordering.lt h k e n = less (lt_of_le-ne (h tt) n)
    go Ordering.eq h k e n = same (e tt)
    go Ordering.gt h k e n = more (k tt)

pub le_or_lt : (a b : ℕ) → (a ≤ b) ⊎ (b < a)
le_or_lt a b = elim (dec_le a b) [ yes h ↦ inl h | no h ↦ inr (omega arith) ]

pub order_lt : (a b : ℕ) → a < b → compare a b ≡ Ordering.lt
order_lt a b h = order_cases (λ (o : Ordering). o ≡ Ordering.lt) a b (λ _. refl) (λ e. absurd (omega arith)) (λ l. absurd (omega arith))

pub order_eq : (a b : ℕ) → a ≡ b → compare a b ≡ Ordering.eq
order_eq a b h = order_cases (λ (o : Ordering). o ≡ Ordering.eq) a b (λ l. absurd (omega arith)) (λ _. refl) (λ l. absurd (omega arith))

pub order_gt : (a b : ℕ) → b < a → compare a b ≡ Ordering.gt
order_gt a b h = order_cases (λ (o : Ordering). o ≡ Ordering.gt) a b (λ l. absurd (omega arith)) (λ e. absurd (omega arith)) (λ _. refl)

pub order_same : (a b c d : ℕ) → (a < b → c < d) → (a ≡ b → c ≡ d) → (b < a → d < c) → compare a b ≡ compare c d
order_same a b c d f g h = order_cases (λ (o : Ordering). o ≡ compare c d) a b (λ l. sym (order_lt c d (f l))) (λ e. sym (order_eq c d (g e))) (λ l. sym (order_gt c d (h l)))

-- both times k
pub order_scale : (a b k : ℕ) → 0 < k → compare a b ≡ compare (a * k) (b * k)
order_scale a b k p = order_same a b (a * k) (b * k) (λ l. mul-lt-mul_of_pos_right l p) (λ e. ap (λ (x : ℕ). x * k) e) (λ l. mul-lt-mul_of_pos_right l p)
