-- What the levels from t down hold of a number, and what is left. The idea: the two are together the number, and what is left is at most half the last unit.
use mathlib.Core.Path.{◌≡◌, refl, sym, ap, ap₂, ◌∙◌, fun_ext}
use Prim.Native.Nat.{ℕ, zero, suc, ◌-◌, ◌*◌, ◌^◌, ◌≤◌, ◌<◌}
use native.Mathlib.Nat.{sub-zero, zero-sub, suc-sub-suc, le_refl, le_trans, zero-mul, mul_assoc}
use native.Mathlib.Decide.{dec_le}
use native.Mathlib.Omega.{arith}
use lib.IntN.{ℤ, pos, negsuc, nat_abs, ◌+ℤ◌, ◌-ℤ◌, ◌*ℤ◌, +ℤ_idl, +ℤ_idr}
use lib.Pow.{pow_pos, pow_mono}
use Rattle.integers.proofs.Laws.{+ℤ-passing}
use Rattle.integers.proofs.Naturals.{pow-sum}
use Rattle.level.specs.Double.{negative, exponent_field, significand, magnitude, value}
use Rattle.level.specs.Level.{unit, left, given, top, contribution, below, level_sum}
use Rattle.level.proofs.Given.{left_half, left_size}
use Rattle.level.proofs.Signs.{nat_abs-signed}
use Rattle.level.specs.Cut.{rest_of}
use Rattle.level.proofs.Top.{contribution_start, top-place}
use Rattle.level.proofs.Descent.{given_below, given_below_is, rest_scale, rest_whole}

-- what is left of z after the n levels from t down
unfoldable pub left_after : ℕ → ℤ → ℕ → ℤ
left_after t z zero = z
left_after zero z (suc n) = left z 0
left_after (suc s) z (suc n) = left_after s (left z (suc s)) n

-- at most half a unit of the last of these levels
pub after_half : (t : ℕ) (z : ℤ) (n : ℕ) → nat_abs (left_after t z (suc n)) * 2 ≤ unit (t - n)
unfolding left_after
after_half zero z zero = left_half z 0
after_half zero z (suc n) = rw (zero-sub (suc n)) (left_half z 0)
after_half (suc s) z zero = rw sub-zero (left_half z (suc s))
after_half (suc s) z (suc n) = rw (suc-sub-suc s n) (after_half s (left z (suc s)) n)

after-step : (t : ℕ) (z : ℤ) (n : ℕ) → left_after t z (suc n) ≡ left_after t z n -ℤ given_below t z n *ℤ pos (unit (t - n))
unfolding left_after given_below
after-step zero z zero = refl
after-step zero z (suc n) = rw zero-mul (sym (+ℤ_idr (left z 0)))
after-step (suc s) z zero = rw sub-zero refl
after-step (suc s) z (suc n) = rw (suc-sub-suc s n) (after-step s (left z (suc s)) n)

-- what the levels hold, with what is left, is the number
pub level_sum-given : (t : ℕ) (z : ℤ) (n : ℕ) → level_sum (given (suc t) z) t n +ℤ left_after t z n ≡ z
unfolding level_sum left_after
level_sum-given t z zero = +ℤ_idl z
level_sum-given t z (suc n) =
    let k = level_sum (given (suc t) z) t n in
    let r = below (given (suc t) z) t n *ℤ pos (unit (t - n)) in
    ap (λ (w : ℤ). k +ℤ r +ℤ w) (after-step t z n ∙ ap (λ (g : ℤ). left_after t z n -ℤ g *ℤ pos (unit (t - n))) (given_below_is t z n))
    ∙ +ℤ-passing k r (left_after t z n) ∙ level_sum-given t z n

-- of a row, for any start at its top or above
pub level_sum-row : (b t n : ℕ) → top b ≤ t → level_sum (contribution b) t n +ℤ left_after t (value b) n ≡ value b
level_sum-row b t n h =
    ap (λ (g : ℕ → ℤ). level_sum g t n +ℤ left_after t (value b) n) (fun_ext (λ (j : ℕ). sym (contribution_start b t j h))) ∙ level_sum-given t (value b) n

-- where nothing is left, the levels hold all of it
pub level_sum_all : (b t n : ℕ) → top b ≤ t → left_after t (value b) n ≡ pos 0 → level_sum (contribution b) t n ≡ value b
level_sum_all b t n h e =
    sym (+ℤ_idr (level_sum (contribution b) t n)) ∙ ap (λ (w : ℤ). level_sum (contribution b) t n +ℤ w) (sym e) ∙ level_sum-row b t n h

-- ---- a whole number of 2^e leaves one, and nothing once a level's unit is 2^e or less
left_whole : (z : ℤ) (j e q : ℕ) → nat_abs z ≡ q * 2 ^ e → (p : ℕ) × (nat_abs (left z j) ≡ p * 2 ^ e)
left_whole z j e q h =
    elim (dec_le e (40 * j)) [
      | yes l ↦ (
        rest_of q (2 ^ (40 * j - e)),
        left_size z j ∙ ap₂ rest_of h (sym (pow-sum (40 * j - e) e (40 * j) (omega arith))) ∙ rest_scale q (2 ^ (40 * j - e)) (2 ^ e) (pow_pos (40 * j - e)) (pow_pos e),
      )
      | no k ↦ (
        0,
        left_size z j
            ∙ ap (λ (x : ℕ). rest_of x (unit j)) (h ∙ ap (λ (w : ℕ). q * w) (sym (pow-sum (e - 40 * j) (40 * j) e (omega arith))) ∙ sym (mul_assoc q (2 ^ (e - 40 * j)) (unit j)))
            ∙ rest_whole (q * 2 ^ (e - 40 * j)) (unit j) (pow_pos (40 * j)) ∙ sym (zero-mul (2 ^ e)),
      )
    ]

after_whole : (t : ℕ) (z : ℤ) (n e q : ℕ) → nat_abs z ≡ q * 2 ^ e → (p : ℕ) × (nat_abs (left_after t z n) ≡ p * 2 ^ e)
unfolding left_after
after_whole t z zero e q h = (q, h)
after_whole zero z (suc n) e q h = left_whole z 0 e q h
after_whole (suc s) z (suc n) e q h = let w = left_whole z (suc s) e q h in after_whole s (left z (suc s)) n e w.0 w.1

half_multiple_zero : (z : ℤ) (q w : ℕ) → 0 < w → nat_abs z ≡ q * w → nat_abs z * 2 ≤ w → z ≡ pos 0
half_multiple_zero (pos n) zero w h e l = ap pos (omega arith)
half_multiple_zero (pos n) (suc q) w h e l = absurd (omega arith)
half_multiple_zero (negsuc n) zero w h e l = absurd (omega arith)
half_multiple_zero (negsuc n) (suc q) w h e l = absurd (omega arith)

-- nothing is left of a whole number of 2^e once a level's unit is 2^e or less; with e = 0, of any number after level 0
pub after_exact : (t : ℕ) (z : ℤ) (n e q : ℕ) → nat_abs z ≡ q * 2 ^ e → 40 * (t - n) ≤ e → left_after t z (suc n) ≡ pos 0
after_exact t z n e q h l =
    let w = after_whole t z (suc n) e q h in
    half_multiple_zero (left_after t z (suc n)) w.0 (2 ^ e) (pow_pos e) w.1 (le_trans (after_half t z n) (pow_mono l))

-- at its own top a row is kept whole by three levels
pub level_sum_whole : (b : ℕ) → level_sum (contribution b) (top b) 3 ≡ value b
level_sum_whole b =
    level_sum_all b (top b) 3 (le_refl (top b))
    (after_exact (top b) (value b) 2 (exponent_field b - 1) (significand b) (nat_abs-signed (negative b) (magnitude b)) (omega (arith, top-place b)))
