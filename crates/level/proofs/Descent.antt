-- What a number gives to a level and to the levels below it, by the sizes of what is left. The idea: in place of a unit 2^40 times smaller, what is left is
-- taken 2^40 times larger (`scaled`).
use mathlib.Core.Path.{◌≡◌, refl, sym, ap, ap₂, ◌∙◌}
use mathlib.Core.Bool.{Bool, true, false, not}
use Prim.Native.Nat.{ℕ, zero, suc, ◌-◌, ◌*◌, ◌^◌, ◌≤◌, ◌<◌, zero-le}
use native.Mathlib.Nat.{mul-sub, mul_comm, mul_assoc, mul-pos, zero-mul, add-mul, sub-zero, suc-sub-suc, mul-lt-mul_of_pos_right, mul-le-mul_right}
use native.Mathlib.Decide.{dec_lt}
use native.Mathlib.Omega.{arith}
use lib.Dec.{ltb, leb-zero, leb-suc-zero, leb-suc-suc}
use lib.IntN.{ℤ, pos, neg_ℤ, neg_ℤ-neg_ℤ}
use lib.Pow.{pow_pos}
use lib.Ieee.Nearest.{closest, closest_same}
use borrow.Author.Tests.{lt-ltb, le-ltb}
use Rattle.integers.proofs.Naturals.{pow-sum}
use Rattle.level.specs.Double.{signed, negative, exponent_field, significand, magnitude, value}
use Rattle.level.specs.Level.{unit, nearest_to, left, given, below, top, contribution}
use Rattle.level.specs.Cut.{shift_of, abs_diff, rest_of, rounded_up, flipped_if}
use Rattle.level.proofs.Near.{closest_small, closest_whole}
use Rattle.level.proofs.Signs.{sub-signed}
use Rattle.level.proofs.Top.{top-place}
use Rattle.level.proofs.Given.{unit-pos, unit-suc, nearest-neg, left-neg, given_here, given_lower}

-- ---- scaling
sub-scale : (a b s : ℕ) → (a - b) * s ≡ a * s - b * s
sub-scale a b s = mul_comm (a - b) s ∙ mul-sub s a b ∙ ap₂ ◌-◌ (mul_comm s a) (mul_comm s b)

abs_diff-scale : (x y s : ℕ) → abs_diff (x * s) (y * s) ≡ abs_diff x y * s
abs_diff-scale x y s = rw (add-mul, sub-scale x y s, sub-scale y x s)

ltb_scale : (a b s : ℕ) → 0 < s → ltb (a * s) (b * s) ≡ ltb a b
ltb_scale a b s h =
    elim (dec_lt a b) [
      | yes l ↦ lt-ltb (a * s) (b * s) (mul-lt-mul_of_pos_right l h) ∙ sym (lt-ltb a b l)
      | no k ↦ let m : b ≤ a = omega arith in le-ltb (a * s) (b * s) (mul-le-mul_right s m) ∙ sym (le-ltb a b m)
    ]

-- n / u and x / v are the same fraction, so their nearest numbers are one, and what is left is the same fraction again
module _ (n u x v : ℕ) (u-pos : 0 < u) (v-pos : 0 < v) (same : n * v ≡ x * u) where
  same_whole : closest n u * u * v ≡ closest x v * v * u
  same_whole = rw (closest_same n u x v u-pos v-pos same) (omega arith)

  same_rest : rest_of n u * v ≡ rest_of x v * u
  same_rest = sym (abs_diff-scale n (closest n u * u) v) ∙ ap₂ abs_diff same same_whole ∙ abs_diff-scale x (closest x v * v) u

  same_direction : rounded_up n u ≡ rounded_up x v
  same_direction = sym (ltb_scale n (closest n u * u) v v-pos) ∙ ap₂ ltb same same_whole ∙ ltb_scale x (closest x v * v) u u-pos

-- x / u with both sides multiplied
module _ (x u s : ℕ) (u-pos : 0 < u) (s-pos : 0 < s) where
  scaled_up : x * s * u ≡ x * (u * s)
  scaled_up = omega arith

  pub units_scale : closest (x * s) (u * s) ≡ closest x u
  units_scale = closest_same (x * s) (u * s) x u (mul-pos u-pos s-pos) u-pos scaled_up

  pub direction_scale : rounded_up (x * s) (u * s) ≡ rounded_up x u
  direction_scale = same_direction (x * s) (u * s) x u (mul-pos u-pos s-pos) u-pos scaled_up

  pub rest_scale : rest_of (x * s) (u * s) ≡ rest_of x u * s
  rest_scale =
      ap (λ (c : ℕ). abs_diff (x * s) (c * (u * s))) units_scale ∙ ap (abs_diff (x * s)) (sym (mul_assoc (closest x u) u s))
      ∙ abs_diff-scale x (closest x u * u) s

-- ---- by sign and size
pub neg-signed : (g : Bool) (n : ℕ) → neg_ℤ (signed g n) ≡ signed (not g) n
neg-signed true n = neg_ℤ-neg_ℤ (pos n)
neg-signed false n = refl

nearest-signed : (g : Bool) (n u : ℕ) → 0 < u → nearest_to (signed g n) u ≡ signed g (closest n u)
nearest-signed true n u h = nearest-neg (pos n) u h
nearest-signed false n u h = refl

not_flipped : (b : Bool) → b ≡ flipped_if false b
not_flipped true = refl
not_flipped false = refl

flip_true : (b : Bool) → not b ≡ flipped_if true b
flip_true true = refl
flip_true false = refl

left-signed : (g : Bool) (n j : ℕ) → left (signed g n) j ≡ signed (flipped_if g (rounded_up n (unit j))) (rest_of n (unit j))
left-signed false n j =
    sub-signed n (closest n (unit j) * unit j) ∙ ap (λ (b : Bool). signed b (rest_of n (unit j))) (not_flipped (rounded_up n (unit j)))
left-signed true n j =
    left-neg (pos n) j ∙ ap neg_ℤ (sub-signed n (closest n (unit j) * unit j)) ∙ neg-signed (rounded_up n (unit j)) (rest_of n (unit j))
    ∙ ap (λ (b : Bool). signed b (rest_of n (unit j))) (flip_true (rounded_up n (unit j)))

-- ---- the levels from t down
-- what z gives k levels below t, where it starts
unfoldable pub given_below : ℕ → ℤ → ℕ → ℤ
given_below t z zero = nearest_to z (unit t)
given_below zero z (suc k) = pos 0
given_below (suc s) z (suc k) = given_below s (left z (suc s)) k

pub given_below_is : (t : ℕ) (z : ℤ) (k : ℕ) → given_below t z k ≡ below (given (suc t) z) t k
unfolding given_below
given_below_is t z zero = rw (leb-zero t, sub-zero t) (sym (given_here t z))
given_below_is zero z (suc k) = rw (leb-suc-zero k)
given_below_is (suc s) z (suc k) =
    rw (leb-suc-suc k s, suc-sub-suc s k, given_lower (suc s) z (s - k) (omega arith)) (given_below_is s (left z (suc s)) k)

-- the same from a size x that is counted in units v throughout: each level down counts 2^40 times as much
unfoldable pub scaled : ℕ → Bool → ℕ → ℕ → ℤ
scaled v g x zero = signed g (closest x v)
scaled v g x (suc k) = scaled v (flipped_if g (rounded_up x v)) (rest_of x v * 2 ^ 40) k

pub signed-zero : (g : Bool) → signed g 0 ≡ pos 0
signed-zero true = refl
signed-zero false = refl

-- a whole number of units leaves nothing
pub rest_whole : (q v : ℕ) → 0 < v → rest_of (q * v) v ≡ 0
rest_whole q v h = rw (closest_whole q v h) (omega arith)

scaled_zero : (v : ℕ) → 0 < v → (g : Bool) (x k : ℕ) → x ≡ 0 → scaled v g x k ≡ pos 0
unfolding scaled
scaled_zero v h g x zero e = ap (signed g) (ap (λ (y : ℕ). closest y v) e ∙ closest_small 0 v h zero-le) ∙ signed-zero g
scaled_zero v h g x (suc k) e =
    let r : rest_of x v ≡ 0 = ap (λ (y : ℕ). rest_of y v) (e ∙ sym (zero-mul v)) ∙ rest_whole 0 v h in
    scaled_zero v h (flipped_if g (rounded_up x v)) (rest_of x v * 2 ^ 40) k (omega arith)

given_below_scaled : (v : ℕ) → 0 < v → (t : ℕ) (g : Bool) (n x k : ℕ) → n * v ≡ x * unit t → given_below t (signed g n) k ≡ scaled v g x k
unfolding given_below scaled
given_below_scaled v h t g n x zero e = nearest-signed g n (unit t) (unit-pos t) ∙ ap (signed g) (closest_same n (unit t) x v (unit-pos t) h e)
given_below_scaled v h zero g n x (suc k) e =
    let r : rest_of x v ≡ 0 = ap (λ (y : ℕ). rest_of y v) (omega arith) ∙ rest_whole n v h in
    sym (scaled_zero v h (flipped_if g (rounded_up x v)) (rest_of x v * 2 ^ 40) k (omega arith))
given_below_scaled v h (suc s) g n x (suc k) e =
    let u = unit (suc s) in
    let p = unit-pos (suc s) in
    ap (λ (z : ℤ). given_below s z k) (left-signed g n (suc s))
    ∙ ap (λ (b : Bool). given_below s (signed (flipped_if g b) (rest_of n u)) k) (same_direction n u x v p h e)
    ∙ given_below_scaled v h s (flipped_if g (rounded_up x v)) (rest_of n u) (rest_of x v * 2 ^ 40) k
    (same_rest n u x v p h e ∙ ap (λ (w : ℕ). rest_of x v * w) (unit-suc s) ∙ sym (mul_assoc (rest_of x v) (2 ^ 40) (unit s)))

-- a row's contributions from its top down, from its significand
pub row_scaled : (b k : ℕ) → below (contribution b) (top b) k ≡ scaled (2 ^ shift_of b) (negative b) (significand b) k
unfolding contribution
row_scaled b k =
    sym (given_below_is (top b) (value b) k)
    ∙ given_below_scaled (2 ^ shift_of b) (pow_pos (shift_of b)) (top b) (negative b) (magnitude b) (significand b) k
    (mul_assoc (significand b) (2 ^ (exponent_field b - 1)) (2 ^ shift_of b)
    ∙ ap (λ (w : ℕ). significand b * w) (pow-sum (exponent_field b - 1) (shift_of b) (40 * top b) (omega (arith, top-place b))))
