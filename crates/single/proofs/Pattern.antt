-- The bits that the code puts together are those of the double: sign, field and fraction apart.
use mathlib.Core.Path.{◌≡◌, refl, sym, ap, ap₂, ◌∙◌, subst}
use mathlib.Core.Bool.{Bool, true, not, cond}
use Prim.Native.Nat.{ℕ, zero, suc, ◌+◌, ◌-◌, ◌*◌, ◌/◌, ◌%◌, ◌^◌, ◌≤◌, ◌<◌}
use native.Mathlib.Nat.{le_trans, le_of_eq, le_of_suc-le-suc, lt_of_not-le, not-le_of_lt, mod-eq_of_lt, mul-one, mul_assoc, mul-div_cancel, mul-le-mul_right, add_assoc, suc-add}
use native.Mathlib.Omega.{arith}
use borrow.Author.Tests.{eq-eqb, ne_eqb}
use lib.Dec.{eqb}
use lib.Count.{count_leading_zeros, leading_top}
use lib.Pow.{field, pow-add, pow_pos, pow_mono, shl_lt}
use lib.Ieee.{nan, inf, binary32, binary64, size, of_fields, of_bits, to_bits}
use Rattle.ieee.proofs.Fields.{upper}
use Rattle.ieee.proofs.Values.{size_is, value-bits}
use Rattle.single.specs.Single.{single_negative, single_field, single_fraction, finite_single, single_magnitude, widened}
use Rattle.single.specs.Steps.{unsigned_bits}
use Rattle.single.proofs.Binary32.{value_binary32}

-- the bit of a sign
abbrev pub sign_bit : Bool → ℕ
sign_bit s = cond s (2 ^ 63) 0

-- the sign's bit, moved to its place
pub sign_moved : (x : ℕ) → x < 2 ^ 32 → x / 2 ^ 31 * 2 ^ 63 % 2 ^ 64 ≡ sign_bit (single_negative x)
sign_moved x h = go (x / 2 ^ 31) (omega arith)
  where
    go : (y : ℕ) → y < 2 → y * 2 ^ 63 % 2 ^ 64 ≡ sign_bit (eqb y 1)
    go zero h = refl
    go (suc zero) h = refl
    go (suc (suc y)) h = absurd (omega arith)

-- q of p + 1 digits, with k zeros after them: the digits move up to the 53 that a double has
pub unsigned_is : (q p k : ℕ) → 2 ^ p ≤ q → q < 2 ^ suc p → p ≤ 52 → 52 ≤ p + k → unsigned_bits (q * 2 ^ k) ≡ (p + k - 52) * 2 ^ 52 + q * 2 ^ (52 - p)
unsigned_is q p k l h a b =
    let d = p + k - 52 in
    let z : size (q * 2 ^ k) ≡ suc (p + k) = size_is (q * 2 ^ k) (p + k) (le_trans (le_of_eq (pow-add 2 p k)) (mul-le-mul_right (2 ^ k) l)) (subst (λ (x : ℕ). q * 2 ^ k < 2 ^ x) (suc-add p k) (shl_lt (suc p) k h)) in
    let e : size (q * 2 ^ k) - 53 ≡ d = omega arith in
    let w : k ≡ 52 - p + d = omega arith in
    let v : q * 2 ^ k ≡ q * 2 ^ (52 - p) * 2 ^ d = ap (λ (i : ℕ). q * 2 ^ i) w ∙ ap (λ (x : ℕ). q * x) (pow-add 2 (52 - p) d) ∙ sym (mul_assoc q (2 ^ (52 - p)) (2 ^ d)) in
    ap (λ (i : ℕ). i * 2 ^ 52 + q * 2 ^ k / 2 ^ i) e ∙ ap (λ (x : ℕ). d * 2 ^ 52 + x) (ap (λ (x : ℕ). x / 2 ^ d) v ∙ mul-div_cancel (q * 2 ^ (52 - p)) (pow_pos d))

-- the hidden digit adds one to the field
joined : (e t : ℕ) → 0 < e → (23 + (e - 1 + 925) - 52) * 2 ^ 52 + (2 ^ 23 + t) * 2 ^ (52 - 23) ≡ (e + 896) * 2 ^ 52 + t * 2 ^ 29
joined e t h = omega arith

module _ (x : ℕ) (h : x < 2 ^ 32) where
  -- a finite one
  pub widened-bits : finite_single x ≡ true → widened x ≡ sign_bit (single_negative x) + unsigned_bits (single_magnitude x)
  unfolding widened
  widened-bits f =
      value-bits binary64 (of_bits binary32 x) (single_negative x) (single_magnitude x) (value_binary32 x h f)
      ∙ add_assoc (sign_bit (single_negative x)) ((size (single_magnitude x) - 53) * 2 ^ 52) (single_magnitude x / 2 ^ (size (single_magnitude x) - 53))

  -- a subnormal
  pub widened-low : single_field x ≡ 0 → widened x ≡ sign_bit (single_negative x) + unsigned_bits (single_fraction x * 2 ^ 925)
  widened-low e =
      let m : single_magnitude x ≡ single_fraction x * 2 ^ 925 = rw (eq-eqb (single_field x) 0 e, e, mul-one (single_fraction x)) in
      widened-bits (ap (λ (y : ℕ). not (eqb y 255)) e) ∙ ap (λ (n : ℕ). sign_bit (single_negative x) + unsigned_bits n) m

  -- a normal one
  pub widened_mid : 0 < single_field x → single_field x < 255 → widened x ≡ sign_bit (single_negative x) + ((single_field x + 896) * 2 ^ 52 + single_fraction x * 2 ^ 29)
  widened_mid a b =
      let q = 2 ^ 23 + single_fraction x in
      let k = single_field x - 1 + 925 in
      let m : single_magnitude x ≡ q * 2 ^ k = rw (ne_eqb (single_field x) 0 (λ e. omega arith)) (mul_assoc q (2 ^ (single_field x - 1)) (2 ^ 925) ∙ ap (λ (n : ℕ). q * n) (sym (pow-add 2 (single_field x - 1) 925))) in
      let u : unsigned_bits (q * 2 ^ k) ≡ (single_field x + 896) * 2 ^ 52 + single_fraction x * 2 ^ 29 = unsigned_is q 23 k (omega arith) (omega arith) (omega arith) (omega arith) ∙ joined (single_field x) (single_fraction x) a in
      widened-bits (ap not (ne_eqb (single_field x) 255 (λ e. omega arith))) ∙ ap (λ (n : ℕ). sign_bit (single_negative x) + n) (ap unsigned_bits m ∙ u)

  -- the infinities and the NaNs
  read-top : single_field x ≡ 255 → of_bits binary32 x ≡ cond (eqb (single_fraction x) 0) (inf (single_negative x)) nan
  unfolding of_bits of_fields
  read-top e = rw (field x 8 23, e, ← upper (2 ^ 31) x h) refl

  pub widened-infinite : single_field x ≡ 255 → single_fraction x ≡ 0 → widened x ≡ sign_bit (single_negative x) + 2047 * 2 ^ 52
  unfolding widened to_bits
  widened-infinite e z = ap (to_bits binary64) (read-top e ∙ ap (λ (b : Bool). cond b (inf (single_negative x)) nan) (eq-eqb (single_fraction x) 0 z))

  pub widened_nan : single_field x ≡ 255 → (single_fraction x ≡ 0 → ⊥) → widened x ≡ 0x7FF8000000000000
  unfolding widened to_bits
  widened_nan e n = ap (to_bits binary64) (read-top e ∙ ap (λ (b : Bool). cond b (inf (single_negative x)) nan) (ne_eqb (single_fraction x) 0 n))

-- ---- a subnormal, by its leading zeros

module _ (t : ℕ) (p : 0 < t) (h : t < 2 ^ 23) where
  -- how many digits it has, as the code counts them
  abbrev digits : ℕ
  digits = 32 - count_leading_zeros 32 t

  -- the highest digit has the place j
  highest : (j : ℕ) × (digits ≡ suc j) × (j ≤ 22) × (2 ^ j ≤ t) × (t < 2 ^ suc j)
  highest =
      let w = leading_top 32 t p (omega arith) in
      (w.0, omega arith, le_of_suc-le-suc (lt_of_not-le (λ (g : 23 ≤ w.0). not-le_of_lt h (le_trans (pow_mono g) w.2))), w.2, w.3)

  -- moved up, it stays below 2^53
  moved_lt : t * 2 ^ (53 - digits) < 2 ^ 53
  moved_lt =
      let w = highest in
      let e : suc w.0 + (53 - digits) ≡ 53 = omega arith in
      subst (λ (i : ℕ). t * 2 ^ (53 - digits) < 2 ^ i) e (shl_lt (suc w.0) (53 - digits) w.4)

  pub subnormal_lt : (digits + 872) * 2 ^ 52 % 2 ^ 64 + t * 2 ^ (53 - digits) % 2 ^ 64 < 2 ^ 63
  subnormal_lt = let w = highest in let m = moved_lt in omega arith

  pub subnormal_bits : (digits + 872) * 2 ^ 52 % 2 ^ 64 + t * 2 ^ (53 - digits) % 2 ^ 64 ≡ unsigned_bits (t * 2 ^ 925)
  subnormal_bits =
      let w = highest in
      let m = moved_lt in
      let e : 53 - digits ≡ 52 - w.0 = omega arith in
      let a : (digits + 872) * 2 ^ 52 % 2 ^ 64 ≡ (w.0 + 925 - 52) * 2 ^ 52 = omega arith in
      let b : t * 2 ^ (53 - digits) % 2 ^ 64 ≡ t * 2 ^ (52 - w.0) = mod-eq_of_lt (omega arith) ∙ ap (λ (i : ℕ). t * 2 ^ i) e in
      ap₂ (λ (x y : ℕ). x + y) a b ∙ sym (unsigned_is t w.0 925 w.3 w.4 (omega arith) (omega arith))
