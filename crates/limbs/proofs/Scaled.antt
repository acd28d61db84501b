-- The bits of n units, read off a number w of just 160 digits that is n times a power of two. The idea: w's leading 53 digits are n's, and n has as many
-- digits as w less that power; so both parts of the bits follow from w and the power.
use mathlib.Core.Path.{◌≡◌, sym, ap, ap₂, ◌∙◌}
use Prim.Native.Nat.{ℕ, ◌+◌, ◌-◌, ◌*◌, ◌/◌, ◌^◌, ◌≤◌, ◌<◌}
use native.Mathlib.Nat.{le_trans, le_of_eq, lt_of_lt_of_le, lt_of_le_of_lt, lt_of_not-le, not-le_of_lt, mul-one, mul_assoc, mul_right_comm, mul-div_cancel, mul-le-mul_right, eq_of_mul-eq-mul_right, zero-add}
use native.Mathlib.Omega.{arith}
use mathlib.Core.List.{List}
use lib.IntN.{pos}
use lib.ListN.{get_or}
use mir.Syntax.{w64}
use mir.Val.{Fits}
use lib.Pow.{pow-add, pow_pos, pow_mono, shl_lt}
use lib.Ieee.{size}
use lib.Ieee.Digits.{size-lt, size_reaches}
use lib.Ieee.Positive.{first_pos}
use Rattle.integers.proofs.Naturals.{pow-sum}
use Rattle.limbs.specs.Limbs.{value_of, ShiftedLeft}
use Rattle.limbs.specs.Nearest.{is_odd, nearest_by}
use Rattle.limbs.specs.Packed.{dropped_digits, significand_of, rounded_units, packed, units_of, most_scale, leading_digits}
use Rattle.limbs.specs.Side.{side_of, packed_side}
use Rattle.std.specs.declared.cmp.Ordering.TheVariants.{Equal}
use Rattle.limbs.proofs.Nearest.{nearest-same, nearest_whole}
use Rattle.limbs.proofs.Sides.{side_equal, side-scale}
use Rattle.limbs.proofs.Packed.{short_exact}
use Rattle.limbs.proofs.Leading.{value-lt, value_ge}

-- with n = 2^a * w / 2^b, and w of 160 digits
module _ (n w a b : ℕ) (e : n * 2 ^ b ≡ w * 2 ^ a) (lo : 2 ^ 159 ≤ w) (hi : w < 2 ^ 160) where
  scaled_ge : 2 ^ (159 + a) ≤ n * 2 ^ b
  scaled_ge = le_trans (le_of_eq (pow-add 2 159 a)) (le_trans (mul-le-mul_right (2 ^ a) lo) (le_of_eq (sym e)))

  scaled_lt : n * 2 ^ b < 2 ^ (160 + a)
  scaled_lt = lt_of_le_of_lt (le_of_eq e) (shl_lt 160 a hi)

  size_low : 159 + a < size n + b
  size_low = lt_of_not-le (λ (g : size n + b ≤ 159 + a). not-le_of_lt (lt_of_lt_of_le (shl_lt (size n) b (size-lt n)) (pow_mono g)) scaled_ge)

  n_pos : 0 < n
  n_pos = first_pos n (2 ^ b) (lt_of_lt_of_le (pow_pos (159 + a)) scaled_ge)

  pub size_pos : 0 < size n
  size_pos = lt_of_not-le (λ (g : size n ≤ 0). not-le_of_lt (lt_of_lt_of_le (size-lt n) (pow_mono {j = 0} g)) n_pos)

  size_high : size n + b ≤ 160 + a
  size_high =
      let p : size n - 1 < size n = omega (arith, size_pos) in
      let r : 2 ^ (size n - 1 + b) ≤ n * 2 ^ b = le_trans (le_of_eq (pow-add 2 (size n - 1) b)) (mul-le-mul_right (2 ^ b) (size_reaches n (size n - 1) p)) in
      let s : size n - 1 + b < 160 + a = lt_of_not-le (λ (g : 160 + a ≤ size n - 1 + b). not-le_of_lt scaled_lt (le_trans (pow_mono g) r)) in
      omega (arith, size_pos)

  pub scaled_size : size n + b ≡ 160 + a
  scaled_size = omega (arith, size_low, size_high)

  -- where n has 53 digits or more, w's 53 leading ones are n's
  same-significand : 107 + a ≡ dropped_digits n + b → significand_of n ≡ nearest_by is_odd w (2 ^ 107)
  same-significand s =
      nearest-same is_odd n (2 ^ dropped_digits n) w (2 ^ 107) (pow_pos (dropped_digits n)) (pow_pos 107)
      (eq_of_mul-eq-mul_right (2 ^ b) (pow_pos b) (n * 2 ^ 107) (w * 2 ^ dropped_digits n)
      (mul_right_comm n (2 ^ 107) (2 ^ b)
      ∙ ap (λ (x : ℕ). x * 2 ^ 107) e
      ∙ mul_assoc w (2 ^ a) (2 ^ 107)
      ∙ ap (λ (x : ℕ). w * x) (pow-sum a 107 (dropped_digits n + b) (omega arith) ∙ pow-add 2 (dropped_digits n) b)
      ∙ sym (mul_assoc w (2 ^ dropped_digits n) (2 ^ b))))

  pub scaled_normal : b ≤ 107 + a → packed n ≡ (107 + a - b) * 2 ^ 52 + nearest_by is_odd w (2 ^ 107)
  scaled_normal h =
      let s : 107 + a ≡ dropped_digits n + b = omega (arith, scaled_size) in
      let d : dropped_digits n ≡ 107 + a - b = omega (arith, scaled_size) in
      ap (λ (q : ℕ). dropped_digits n * 2 ^ 52 + q) (same-significand s) ∙ ap (λ (k : ℕ). k * 2 ^ 52 + nearest_by is_odd w (2 ^ 107)) d

  -- where it has fewer, w is n with zeros after it
  pub scaled_small : 107 + a < b → packed n ≡ nearest_by is_odd w (2 ^ 107) / 2 ^ (b - (107 + a))
  scaled_small h =
      let g = b - (107 + a) in
      let d : dropped_digits n ≡ 0 = omega (arith, scaled_size) in
      let s : g + 107 + a ≡ b = omega arith in
      let x : w ≡ n * 2 ^ g * 2 ^ 107 =
      eq_of_mul-eq-mul_right (2 ^ a) (pow_pos a) w (n * 2 ^ g * 2 ^ 107)
      (sym e ∙ ap (λ (y : ℕ). n * 2 ^ y) (sym s) ∙ ap (λ (y : ℕ). n * y) (pow-add 2 (g + 107) a ∙ ap (λ (y : ℕ). y * 2 ^ a) (pow-add 2 g 107)) ∙ sym (mul_assoc n (2 ^ g * 2 ^ 107) (2 ^ a)) ∙ ap (λ (y : ℕ). y * 2 ^ a) (sym (mul_assoc n (2 ^ g) (2 ^ 107))))
      in
      ap (λ (k : ℕ). k * 2 ^ 52 + nearest_by is_odd n (2 ^ k)) d
      ∙ zero-add (nearest_by is_odd n 1)
      ∙ sym (ap (λ (y : ℕ). nearest_by is_odd y 1) (mul-one n))
      ∙ nearest_whole is_odd n 1 (pow_pos 0)
      ∙ sym (ap (λ (y : ℕ). nearest_by is_odd y (2 ^ 107) / 2 ^ g) x ∙ ap (λ (y : ℕ). y / 2 ^ g) (nearest_whole is_odd (n * 2 ^ g) (2 ^ 107) (pow_pos 107)) ∙ mul-div_cancel n (pow_pos g))

  -- where n has 53 digits or more, its nearest double is on the side that w's leading digits are on
  pub scaled_side : b ≤ 107 + a → side_of (pos (nearest_by is_odd w (2 ^ 107) * 2 ^ 107)) (pos w) ≡ packed_side n
  scaled_side h =
      let s : 107 + a ≡ dropped_digits n + b = omega (arith, scaled_size) in
      let q = nearest_by is_odd w (2 ^ 107) in
      let u : q * 2 ^ 107 * 2 ^ a ≡ rounded_units n * 2 ^ b =
      mul_assoc q (2 ^ 107) (2 ^ a)
      ∙ ap (λ (x : ℕ). q * x) (pow-sum 107 a (dropped_digits n + b) s ∙ pow-add 2 (dropped_digits n) b)
      ∙ sym (mul_assoc q (2 ^ dropped_digits n) (2 ^ b))
      ∙ ap (λ (x : ℕ). x * 2 ^ dropped_digits n * 2 ^ b) (sym (same-significand s))
      in
      side-scale (q * 2 ^ 107) w (2 ^ a) (pow_pos a) ∙ ap₂ (λ (x y : ℕ). side_of (pos x) (pos y)) u (sym e) ∙ sym (side-scale (rounded_units n) n (2 ^ b) (pow_pos b))

  -- where it has fewer, its nearest double is n
  pub scaled_small_side : 107 + a < b → Equal ≡ packed_side n
  scaled_small_side h = let d : dropped_digits n ≡ 0 = omega (arith, scaled_size) in sym (side_equal (rounded_units n) n (short_exact n d))

-- ---- of limbs times 2^t / 2^80, shifted left until their leading digit was set

pub field_lt : (t by : ℕ) → t ≤ most_scale → 27 + t - by < 2 ^ 12
field_lt t by h = omega arith

pub field_fits : (t by q : ℕ) → t ≤ most_scale → q ≤ 2 ^ 53 → Fits w64 ((27 + t - by) * 2 ^ 52 + q)
field_fits t by q h k = omega arith

module _ (a r : List ℕ) (t by : ℕ) (n : ShiftedLeft a r by) (g : 2 ^ 39 ≤ get_or r 3 0) (e : units_of a t * 2 ^ 80 ≡ value_of a * 2 ^ t) where
  scaled_units : units_of a t * 2 ^ (80 + by) ≡ value_of r * 2 ^ t
  scaled_units =
      ap (λ (x : ℕ). units_of a t * x) (pow-add 2 80 by)
      ∙ sym (mul_assoc (units_of a t) (2 ^ 80) (2 ^ by))
      ∙ ap (λ (x : ℕ). x * 2 ^ by) e
      ∙ mul_right_comm (value_of a) (2 ^ t) (2 ^ by)
      ∙ ap (λ (x : ℕ). x * 2 ^ t) (sym n.same)

  lo : 2 ^ 159 ≤ value_of r
  lo = value_ge r 39 g

  hi : value_of r < 2 ^ 160
  hi = value-lt r 40 n.reduced n.reduced.limb3

  pub shift-lt : 27 + t < by → by - (27 + t) < 64
  shift-lt h = omega (arith, scaled_size (units_of a t) (value_of r) t (80 + by) scaled_units lo hi, size_pos (units_of a t) (value_of r) t (80 + by) scaled_units lo hi)

  pub assembled : by ≤ 27 + t → (27 + t - by) * 2 ^ 52 + leading_digits r ≡ packed (units_of a t)
  assembled h =
      let g : 80 + by ≤ 107 + t = omega arith in
      let k : 27 + t - by ≡ 107 + t - (80 + by) = omega arith in
      ap (λ (x : ℕ). x * 2 ^ 52 + leading_digits r) k ∙ sym (scaled_normal (units_of a t) (value_of r) t (80 + by) scaled_units lo hi g)

  pub assembled_small : 27 + t < by → leading_digits r / 2 ^ (by - (27 + t)) ≡ packed (units_of a t)
  assembled_small h =
      let g : 107 + t < 80 + by = omega arith in
      let k : by - (27 + t) ≡ 80 + by - (107 + t) = omega arith in
      ap (λ (x : ℕ). leading_digits r / 2 ^ x) k ∙ sym (scaled_small (units_of a t) (value_of r) t (80 + by) scaled_units lo hi g)

  pub assembled_side : by ≤ 27 + t → side_of (pos (leading_digits r * 2 ^ 107)) (pos (value_of r)) ≡ packed_side (units_of a t)
  assembled_side h = scaled_side (units_of a t) (value_of r) t (80 + by) scaled_units lo hi (omega arith)

  pub assembled_small_side : 27 + t < by → Equal ≡ packed_side (units_of a t)
  assembled_small_side h = scaled_small_side (units_of a t) (value_of r) t (80 + by) scaled_units lo hi (omega arith)
