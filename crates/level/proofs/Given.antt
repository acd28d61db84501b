-- What a number gives to the levels, for a general level number. The idea: one step takes the highest level off (`given-step`), and leaves at most half its unit.
use mathlib.Core.Path.{◌≡◌, refl, sym, ap, ◌∙◌}
use mathlib.Core.Bool.{Bool, true, false, cond}
use mathlib.Core.Logic.{inl, inr}
use Prim.Native.Nat.{ℕ, zero, suc, ◌+◌, ◌*◌, ◌^◌, ◌≤◌, ◌<◌, zero-le}
use native.Mathlib.Nat.{le_trans, le_of_eq, le_of_suc-le-suc, eq-or-lt_of_le, mul-suc, mul_comm, mul-le-mul_left, zero-mul}
use native.Mathlib.Omega.{arith}
use lib.Dec.{eqb}
use lib.IntN.{ℤ, pos, negsuc, neg_ℤ, nat_abs, neg_ℤ-neg_ℤ, neg_ℤ-+ℤ, +ℤ_idr}
use lib.Arith.{le-zero}
use lib.Pow.{pow_pos, pow_mono, pow-add}
use lib.Ieee.Nearest.{closest}
use borrow.Author.Tests.{eqb-true, eqb-false}
use Rattle.level.specs.Level.{level_bound, unit, nearest_to, left, given}
use Rattle.level.specs.Cut.{abs_diff, rest_of, rounded_up}
use Rattle.level.proofs.Near.{closest-near, closest-le, closest_small}
use Rattle.integers.proofs.Laws.{nat_abs-neg, negℤ_*ℤ}
use Rattle.level.proofs.Signs.{nat_abs-signed, sub-signed}

-- ---- units
pub unit-pos : (j : ℕ) → 0 < unit j
unit-pos j = pow_pos (40 * j)

pub unit-suc : (j : ℕ) → unit (suc j) ≡ 2 ^ 40 * unit j
unit-suc j = rw (mul-suc, pow-add) (mul_comm _ _)

pub unit_mono : {i j : ℕ} → i ≤ j → unit i ≤ unit j
unit_mono h = pow_mono (mul-le-mul_left 40 h)

-- ---- the nearest whole number of units
pub nearest-neg : (z : ℤ) (u : ℕ) → 0 < u → nearest_to (neg_ℤ z) u ≡ neg_ℤ (nearest_to z u)
nearest-neg (pos zero) u h = let e = closest_small 0 u h zero-le in rw e
nearest-neg (pos (suc n)) u h = refl
nearest-neg (negsuc n) u h = sym (neg_ℤ-neg_ℤ (pos (closest (suc n) u)))

-- at most k units give at most k, and half a unit or less gives 0
pub nearest-le : (z : ℤ) (u k : ℕ) → 0 < u → nat_abs z ≤ k * u → nat_abs (nearest_to z u) ≤ k
nearest-le (pos n) u k h l = closest-le n u k h l
nearest-le (negsuc n) u k h l = le_trans (le_of_eq (nat_abs-neg (pos (closest (suc n) u)))) (closest-le (suc n) u k h l)

pub nearest_small : (z : ℤ) (u : ℕ) → 0 < u → nat_abs z * 2 ≤ u → nearest_to z u ≡ pos 0
nearest_small (pos n) u h l = ap pos (closest_small n u h l)
nearest_small (negsuc n) u h l = ap (λ (m : ℕ). neg_ℤ (pos m)) (closest_small (suc n) u h l)

-- ---- what is left
pub left-neg : (z : ℤ) (j : ℕ) → left (neg_ℤ z) j ≡ neg_ℤ (left z j)
left-neg z j = rw (nearest-neg z (unit j) (unit-pos j), negℤ_*ℤ, ← neg_ℤ-+ℤ)

-- at most half a unit of the level
abs_diff_half : (x y u : ℕ) → x * 2 ≤ y * 2 + u → y * 2 ≤ x * 2 + u → abs_diff x y * 2 ≤ u
abs_diff_half x y u a b = omega arith

pub rest_half : (x u : ℕ) → 0 < u → rest_of x u * 2 ≤ u
rest_half x u h = let near = closest-near x u h in abs_diff_half x (closest x u * u) u near.lower near.upper

size_left : (x j : ℕ) → nat_abs (left (pos x) j) ≡ rest_of x (unit j)
size_left x j = ap nat_abs (sub-signed x (closest x (unit j) * unit j)) ∙ nat_abs-signed (rounded_up x (unit j)) (rest_of x (unit j))

pub left_size : (z : ℤ) (j : ℕ) → nat_abs (left z j) ≡ rest_of (nat_abs z) (unit j)
left_size (pos x) j = size_left x j
left_size (negsuc n) j = ap nat_abs (left-neg (pos (suc n)) j) ∙ nat_abs-neg (left (pos (suc n)) j) ∙ size_left (suc n) j

pub left_half : (z : ℤ) (j : ℕ) → nat_abs (left z j) * 2 ≤ unit j
left_half z j = rw (left_size z j) (rest_half (nat_abs z) (unit j) (unit-pos j))

-- less than half a unit gives nothing, and all is left
pub left_small : (z : ℤ) (j : ℕ) → nat_abs z * 2 ≤ unit j → left z j ≡ z
left_small z j h = rw (nearest_small z (unit j) (unit-pos j) h, zero-mul) (+ℤ_idr z)

-- ---- one step of `given`: the case of the highest level, and that of the others
given-step : (P : ℤ → Type 0) (s : ℕ) (z : ℤ) (j : ℕ) → (j ≡ s → P (nearest_to z (unit s))) → ((j ≡ s → ⊥) → P (given s (left z s) j)) → P (given (suc s) z j)
unfolding given
given-step P s z j here other = go (eqb j s) (eqb-true j s) (eqb-false j s)
  where
    go : (b : Bool) → (b ≡ true → j ≡ s) → (b ≡ false → j ≡ s → ⊥) → P (cond b (nearest_to z (unit s)) (given s (left z s) j))
    go true h k = here (h refl)
    go false h k = other (k refl)

pub given_here : (s : ℕ) (z : ℤ) → given (suc s) z s ≡ nearest_to z (unit s)
given_here s z = given-step (λ (g : ℤ). g ≡ nearest_to z (unit s)) s z s (λ _. refl) (λ n. absurd (n refl))

pub given_lower : (s : ℕ) (z : ℤ) (j : ℕ) → j < s → given (suc s) z j ≡ given s (left z s) j
given_lower s z j h = given-step (λ (g : ℤ). g ≡ given s (left z s) j) s z j (λ e. absurd (omega arith)) (λ _. refl)

-- levels that it does not go through receive 0
pub given_above : (k : ℕ) (z : ℤ) (j : ℕ) → k ≤ j → given k z j ≡ pos 0
unfolding given
given_above zero z j h = refl
given_above (suc s) z j h =
    given-step (λ (g : ℤ). g ≡ pos 0) s z j (λ (e : j ≡ s). absurd (omega arith)) (λ _. given_above s (left z s) j (omega arith))

-- the start does not matter: levels that take nothing may be gone through or not
pub given_start : (k t : ℕ) (z : ℤ) (j : ℕ) → nat_abs z * 2 ≤ unit t → t ≤ k → given k z j ≡ given t z j
given_start zero t z j h l = ap (λ (k : ℕ). given k z j) (sym (le-zero l))
given_start (suc s) t z j h l =
    elim (eq-or-lt_of_le l) [
      | inl e ↦ ap (λ (k : ℕ). given k z j) (sym e)
      | inr m ↦
          let n : nat_abs z * 2 ≤ unit s = le_trans h (unit_mono (le_of_suc-le-suc m)) in
          given-step (λ (g : ℤ). g ≡ given t z j) s z j
          (λ (e : j ≡ s). nearest_small z (unit s) (unit-pos s) n ∙ sym (given_above t z j (omega arith)))
          (λ _. ap (λ (w : ℤ). given s w j) (left_small z s n) ∙ given_start s t z j h (le_of_suc-le-suc m))
    ]

-- no contribution exceeds 2^39 in size
pub given-bound : (k : ℕ) (z : ℤ) (j : ℕ) → nat_abs z * 2 ≤ unit k → nat_abs (given k z j) ≤ level_bound
unfolding given
given-bound zero z j h = zero-le
given-bound (suc s) z j h =
    given-step (λ (g : ℤ). nat_abs g ≤ level_bound) s z j
    (λ _. nearest-le z (unit s) (level_bound) (unit-pos s) (omega (arith, unit-suc s)))
    (λ _. given-bound s (left z s) j (left_half z s))
