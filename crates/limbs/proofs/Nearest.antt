-- The whole number nearest to a fraction. The idea: everything goes by the three orders that twice the remainder and the divisor can stand in (`order_cases`).
use mathlib.Core.Path.{◌≡◌, refl, sym, ap, ap₂, ◌∙◌, subst}
use mathlib.Core.Bool.{Bool, true, false, cond}
use mathlib.Core.Logic.{◌⊎◌, inl, inr}
use Prim.Native.Nat.{ℕ, suc, ◌+◌, ◌*◌, ◌/◌, ◌%◌, ◌≤◌, ◌<◌, compare, Ordering}
use native.Mathlib.Nat.{le_refl, le-suc, le_of_lt, mul_comm, mul_right_comm, add-mul, mod-lt, div-add-mod'}
use native.Mathlib.Omega.{arith}
use borrow.Author.Tests.{eqb-true, eqb-false}
use lib.Arith.{digits_div, digits_mod}
use lib.Ieee.{nearest}
use lib.Ieee.Nearest.{closest, div_same}
use Rattle.integers.proofs.Naturals.{order_cases, order_lt, order_scale}
use Rattle.limbs.specs.Nearest.{rounded, nearest_by, is_odd}

-- ---- beside the quotient

rounded_ge : (t : Bool) (q : ℕ) (o : Ordering) → q ≤ rounded t q o
rounded_ge t q Ordering.lt = le_refl q
rounded_ge true q Ordering.eq = le-suc q
rounded_ge false q Ordering.eq = le_refl q
rounded_ge t q Ordering.gt = le-suc q

rounded-le : (t : Bool) (q : ℕ) (o : Ordering) → rounded t q o ≤ suc q
rounded-le t q Ordering.lt = le-suc q
rounded-le true q Ordering.eq = le_refl (suc q)
rounded-le false q Ordering.eq = le-suc q
rounded-le t q Ordering.gt = le_refl (suc q)

-- ---- the nearest number

module _ (tie : ℕ → Bool) where
  pub nearest-floor : (n d : ℕ) → n / d ≤ nearest_by tie n d
  unfolding nearest_by
  nearest-floor n d = rounded_ge (tie (n / d)) (n / d) (compare (n % d * 2) d)

  pub nearest_ceiling : (n d : ℕ) → nearest_by tie n d ≤ suc (n / d)
  unfolding nearest_by
  nearest_ceiling n d = rounded-le (tie (n / d)) (n / d) (compare (n % d * 2) d)

  -- from any quotient and remainder
  pub nearest_at : (n d q r : ℕ) → n ≡ q * d + r → r < d → nearest_by tie n d ≡ rounded (tie q) q (compare (r * 2) d)
  unfolding nearest_by
  nearest_at n d q r e h =
      ap₂ (λ (x y : ℕ). rounded (tie x) x (compare (y * 2) d)) (ap (λ (x : ℕ). x / d) e ∙ digits_div q h) (ap (λ (x : ℕ). x % d) e ∙ digits_mod q h)

  -- a whole number is its own nearest
  pub nearest_whole : (k d : ℕ) → 0 < d → nearest_by tie (k * d) d ≡ k
  nearest_whole k d h = nearest_at (k * d) d k 0 (omega arith) h ∙ ap (λ (o : Ordering). rounded (tie k) k o) (order_lt 0 d h)

  -- equal fractions have the same
  pub nearest-same : (a b c d : ℕ) → 0 < b → 0 < d → a * d ≡ c * b → nearest_by tie a b ≡ nearest_by tie c d
  unfolding nearest_by
  nearest-same a b c d B D e =
      let w : a / b ≡ c / d = div_same a b c d B D e in
      ap₂ (λ (q : ℕ) (o : Ordering). rounded (tie q) q o) w
      (order_scale (a % b * 2) b d D
      ∙ ap₂ compare (mul_right_comm (a % b) 2 d ∙ ap (λ (x : ℕ). x * 2) (rest w) ∙ mul_right_comm (c % d) b 2) (mul_comm b d)
      ∙ sym (order_scale (c % d * 2) d b B))
    where
      rest : a / b ≡ c / d → a % b * d ≡ c % d * b
      rest w =
          let x : a / b * b * d + a % b * d ≡ a * d = sym (add-mul (a / b * b) (a % b) d) ∙ ap (λ (z : ℕ). z * d) (div-add-mod' a b) in
          let y : c / d * d * b + c % d * b ≡ c * b = sym (add-mul (c / d * d) (c % d) b) ∙ ap (λ (z : ℕ). z * b) (div-add-mod' c d) in
          let s : a / b * b * d ≡ c / d * d * b = mul_right_comm (a / b) b d ∙ ap (λ (z : ℕ). z * d * b) w in
          omega arith

not_one : (x : ℕ) → (x ≡ 1 → ⊥) → x < 2 → x ≡ 0
not_one x f l = omega arith

-- with halves to even it is the library's
pub closest_odd : (n d : ℕ) → closest n d ≡ nearest_by is_odd n d
unfolding nearest_by
closest_odd n d = by (n / d) (compare (n % d * 2) d)
  where
    tie : (q : ℕ) (t : Bool) → (t ≡ true → q % 2 ≡ 1) → (t ≡ false → q % 2 ≡ 1 → ⊥) → q + q % 2 ≡ cond t (suc q) q
    tie q true h k = let e = h refl in omega arith
    tie q false h k = let e : q % 2 ≡ 0 = not_one (q % 2) (k refl) (omega arith) in omega arith

    by : (q : ℕ) (o : Ordering) → nearest q o ≡ rounded (is_odd q) q o
    by q Ordering.lt = refl
    by q Ordering.eq = tie q (is_odd q) (eqb-true (q % 2) 1) (eqb-false (q % 2) 1)
    by q Ordering.gt = refl

-- ---- how near it is: z units d are at most half a unit from n, and at just half a unit above n where ties go up, else below

abbrev pub WithinHalf : Bool → ℕ → ℕ → ℕ → Type 0
WithinHalf true n d z = (z * d * 2 ≤ n * 2 + d) × (n * 2 < z * d * 2 + d)
WithinHalf false n d z = (z * d * 2 < n * 2 + d) × (n * 2 ≤ z * d * 2 + d)

module _ (tie : ℕ → Bool) (n d : ℕ) (h : 0 < d) where
  pub nearest-within : WithinHalf (tie (n / d)) n d (nearest_by tie n d)
  unfolding nearest_by
  nearest-within =
      let r = n % d in
      let q = n / d in
      let t = tie (n / d) in
      subst (λ (m : ℕ). WithinHalf t m d (rounded t q (compare (r * 2) d))) (div-add-mod' n d)
      (order_cases (λ (o : Ordering). WithinHalf t (q * d + r) d (rounded t q o)) (r * 2) d (less t q r) (half t q r) (more t q r (mod-lt n h)))
    where
      less : (t : Bool) (q r : ℕ) → r * 2 < d → WithinHalf t (q * d + r) d q
      less true q r l = (omega arith, omega arith)
      less false q r l = (omega arith, omega arith)

      half : (t : Bool) (q r : ℕ) → r * 2 ≡ d → WithinHalf t (q * d + r) d (cond t (suc q) q)
      half true q r l = (omega arith, omega arith)
      half false q r l = (omega arith, omega arith)

      more : (t : Bool) (q r : ℕ) → r < d → d < r * 2 → WithinHalf t (q * d + r) d (suc q)
      more true q r g l = (omega arith, omega arith)
      more false q r g l = (omega arith, omega arith)

  -- at most half a unit, whatever the rule
  pub nearest-near : (nearest_by tie n d * d * 2 ≤ n * 2 + d) × (n * 2 ≤ nearest_by tie n d * d * 2 + d)
  nearest-near = by (tie (n / d)) (nearest_by tie n d) nearest-within
    where
      by : (t : Bool) (z : ℕ) → WithinHalf t n d z → (z * d * 2 ≤ n * 2 + d) × (n * 2 ≤ z * d * 2 + d)
      by true z w = (w.0, le_of_lt w.1)
      by false z w = (le_of_lt w.0, w.1)

-- z units d are just half a unit from n
abbrev pub Halfway : ℕ → ℕ → ℕ → Type 0
Halfway n d z = (z * d * 2 ≡ n * 2 + d) ⊎ (n * 2 ≡ z * d * 2 + d)

-- with halves to even, an exact half gives an even number
pub nearest-even : (n d : ℕ) → 0 < d → Halfway n d (nearest_by is_odd n d) → nearest_by is_odd n d % 2 ≡ 0
unfolding nearest_by
nearest-even n d h =
    let r = n % d in
    let q = n / d in
    subst (λ (m : ℕ). Halfway m d (rounded (is_odd q) q (compare (r * 2) d)) → rounded (is_odd q) q (compare (r * 2) d) % 2 ≡ 0) (div-add-mod' n d)
    (order_cases (λ (o : Ordering). Halfway (q * d + r) d (rounded (is_odd q) q o) → rounded (is_odd q) q o % 2 ≡ 0) (r * 2) d
    (λ l w. absurd (less q r l w)) (λ l w. even q (is_odd q) (eqb-true (q % 2) 1) (eqb-false (q % 2) 1)) (λ l w. absurd (more q r (mod-lt n h) l w)))
  where
    less : (q r : ℕ) → r * 2 < d → Halfway (q * d + r) d q → ⊥
    less q r l (inl e) = omega arith
    less q r l (inr e) = omega arith

    even : (q : ℕ) (t : Bool) → (t ≡ true → q % 2 ≡ 1) → (t ≡ false → q % 2 ≡ 1 → ⊥) → cond t (suc q) q % 2 ≡ 0
    even q true f g = let e = f refl in omega arith
    even q false f g = not_one (q % 2) (g refl) (omega arith)

    more : (q r : ℕ) → r < d → d < r * 2 → Halfway (q * d + r) d (suc q) → ⊥
    more q r k l (inl e) = omega arith
    more q r k l (inr e) = omega arith
