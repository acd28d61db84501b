-- The top of a row is the smallest level whose 2^39 units exceed the row's size. The idea: no two levels are the smallest (`least_unique`), so a level
-- that is shown to be it is the top: the one that the search finds, and the one that the exponent field gives.
use mathlib.Core.Path.{◌≡◌, refl, sym, subst}
use mathlib.Core.Bool.{Bool, true, false, cond}
use mathlib.Core.Logic.{inl, inr}
use Prim.Native.Nat.{ℕ, zero, suc, ◌+◌, ◌-◌, ◌*◌, ◌/◌, ◌^◌, ◌≤◌, ◌<◌, zero-le, suc-le-suc}
use native.Mathlib.Nat.{le_trans, le_of_eq, ne_of_gt, mul-le-mul_right, eq-zero-or-pos, le_antisymm, eq-or-lt_of_le, lt_of_lt_of_le, add-suc, suc-add, add-zero}
use native.Mathlib.Omega.{arith}
use native.Mathlib.Decide.{dec_lt}
use lib.Dec.{ltb, lit≤}
use lib.IntN.{pos, nat_abs}
use lib.Arith.{lt-one}
use lib.Pow.{pow_mono, pow-add, shl_lt}
use borrow.Author.Tests.{ltb-true, ltb-false}
use Rattle.level.specs.Double.{exponent_field, fraction, significand, magnitude, value}
use Rattle.level.specs.Level.{level_bound, unit, top_from, top, given, contribution}
use Rattle.level.proofs.Double.{significand-lt, significand_normal, size_subnormal}
use Rattle.level.proofs.Signs.{nat_abs-signed}
use Rattle.level.proofs.Given.{unit-suc, given_start, given_above, given-bound}

-- n is below 2^39 units of level t, and of no earlier level from j on
pub record Least (j n t : ℕ) : Type 0 where
  pub under : n < level_bound * unit t
  pub earlier : (i : ℕ) → j ≤ i → i < t → level_bound * unit i ≤ n

top_from_least : (k j n : ℕ) → n < level_bound * unit (j + k) → Least j n (top_from k j n) × (top_from k j n ≤ j + k)
unfolding top_from
top_from_least zero j n h = (record { under = rw add-zero at h; earlier = λ i a b. absurd (omega arith) }, omega arith)
top_from_least (suc k) j n h = go (ltb n (level_bound * unit j)) refl (top_from_least k (suc j) n (rw suc-add (rw add-suc at h)))
  where
    go : (b : Bool) → ltb n (level_bound * unit j) ≡ b → Least (suc j) n (top_from k (suc j) n) × (top_from k (suc j) n ≤ suc j + k) → Least j n (cond b j (top_from k (suc j) n)) × (cond b j (top_from k (suc j) n) ≤ j + suc k)
    go true e r = (record { under = ltb-true _ _ e; earlier = λ i a b. absurd (omega arith) }, omega arith)
    go false e r = (record { under = r.0.under; earlier = earlier }, omega arith)
      where
        earlier : (i : ℕ) → j ≤ i → i < top_from k (suc j) n → level_bound * unit i ≤ n
        earlier i a l =
            elim (eq-or-lt_of_le a) [
              | inl q ↦ subst (λ (x : ℕ). level_bound * unit x ≤ n) q (ltb-false _ _ e)
              | inr m ↦ r.0.earlier i m l
            ]

size_lt : (b : ℕ) → magnitude b < level_bound * unit 52
size_lt b = lt_of_lt_of_le (shl_lt 53 (exponent_field b - 1) (significand-lt b)) (le_trans (pow_mono {j = 2099} (omega arith)) (lit≤ tt))

pub top_least : (b : ℕ) → Least 0 (magnitude b) (top b)
unfolding top
top_least b = (top_from_least 52 0 (magnitude b) (size_lt b)).0

pub top-le : (b : ℕ) → top b ≤ 52
unfolding top
top-le b = (top_from_least 52 0 (magnitude b) (size_lt b)).1

-- no other number is the smallest such level
pub least_unique : (n s t : ℕ) → Least 0 n s → Least 0 n t → s ≡ t
least_unique n s t a b = le_antisymm (no_less s t a b) (no_less t s b a)
  where
    no_less : (s t : ℕ) → Least 0 n s → Least 0 n t → s ≤ t
    no_less s t a b = elim (dec_lt t s) [ yes l ↦ absurd (let h = a.earlier t zero-le l in let k = b.under in omega arith) | no k ↦ omega arith ]

-- ---- a row's contributions
row_half : (b : ℕ) → nat_abs (value b) * 2 ≤ unit (suc (top b))
row_half b = let h = (top_least b).under in rw nat_abs-signed (omega (arith, unit-suc (top b)))

-- the row may start at its top or at any higher level
pub contribution_start : (b s j : ℕ) → top b ≤ s → given (suc s) (value b) j ≡ contribution b j
unfolding contribution
contribution_start b s j h = given_start (suc s) (suc (top b)) (value b) j (row_half b) (suc-le-suc h)

pub contribution_above : (b j : ℕ) → top b < j → contribution b j ≡ pos 0
unfolding contribution
contribution_above b j h = given_above (suc (top b)) (value b) j h

pub contribution-bound : (b j : ℕ) → nat_abs (contribution b j) ≤ level_bound
unfolding contribution
contribution-bound b j = given-bound (suc (top b)) (value b) j (row_half b)

-- ---- the top by the exponent field
units_pow : (j : ℕ) → level_bound * unit j ≡ 2 ^ (39 + 40 * j)
units_pow j = sym (pow-add 2 39 (40 * j))

pub top_normal : (b : ℕ) → (exponent_field b ≡ 0 → ⊥) → top b ≡ (exponent_field b + 52) / 40
top_normal b n = least_unique (magnitude b) (top b) t (top_least b) (record { under = under; earlier = earlier })
  where
    t : ℕ
    t = (exponent_field b + 52) / 40

    under : magnitude b < level_bound * unit t
    under = rw units_pow (lt_of_lt_of_le (shl_lt 53 (exponent_field b - 1) (significand-lt b)) (pow_mono (omega arith)))

    earlier : (i : ℕ) → 0 ≤ i → i < t → level_bound * unit i ≤ magnitude b
    earlier i _ l =
        let h : 2 ^ 52 ≤ significand b = rw (significand_normal b n) (omega arith) in
        rw units_pow
        (le_trans (pow_mono {j = 52 + (exponent_field b - 1)} (omega arith)) (le_trans (le_of_eq (pow-add 2 52 (exponent_field b - 1))) (mul-le-mul_right (2 ^ (exponent_field b - 1)) h)))

pub top_small : (b : ℕ) → exponent_field b ≡ 0 → fraction b < level_bound → top b ≡ 0
top_small b e h =
    least_unique (magnitude b) (top b) 0 (top_least b) (record { under = rw (size_subnormal b e) h; earlier = λ i _ l. absurd (omega arith) })

pub top_subnormal : (b : ℕ) → exponent_field b ≡ 0 → level_bound ≤ fraction b → top b ≡ 1
top_subnormal b e h =
    least_unique (magnitude b) (top b) 1 (top_least b) (record { under = rw (size_subnormal b e) (omega arith); earlier = λ i _ l. rw (size_subnormal b e, lt-one l) h })

-- the unit of the top is 2^0 to 2^53 units of the significand's last digit
pub top-place : (b : ℕ) → (exponent_field b - 1 ≤ 40 * top b) × (40 * top b ≤ 53 + (exponent_field b - 1))
top-place b = elim (eq-zero-or-pos (exponent_field b)) [ inl e ↦ subnormal e | inr h ↦ normal h ]
  where
    subnormal : exponent_field b ≡ 0 → (exponent_field b - 1 ≤ 40 * top b) × (40 * top b ≤ 53 + (exponent_field b - 1))
    subnormal e =
        elim (dec_lt 1 (top b)) [
          | yes l ↦ absurd (let h = rw (size_subnormal b e) at ((top_least b).earlier 1 zero-le l) in omega arith)
          | no k ↦ omega arith
        ]

    normal : 0 < exponent_field b → (exponent_field b - 1 ≤ 40 * top b) × (40 * top b ≤ 53 + (exponent_field b - 1))
    normal h = let e = top_normal b (ne_of_gt h) in omega arith
