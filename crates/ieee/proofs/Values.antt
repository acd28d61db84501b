-- The bits of a value, and that a value has one sign and one size.
use mathlib.Core.Path.{◌≡◌, sym, ap, ◌∙◌}
use mathlib.Core.Bool.{Bool, cond}
use Prim.Native.Nat.{ℕ, suc, ◌+◌, ◌-◌, ◌*◌, ◌/◌, ◌^◌, ◌≤◌, ◌<◌}
use native.Mathlib.Nat.{le_antisymm, lt_of_lt_of_le, lt_of_not-le, not-le_of_lt, mul-div_cancel, mul_right_comm, mul_assoc, eq_of_mul-eq-mul_right}
use lib.Pow.{pow_mono}
use lib.Ieee.{Float, nan, inf, fin, Format, prec, low, hid, top, up, down, size, to_bits}
use lib.Ieee.Digits.{size-lt, size-le}
use lib.Ieee.Fits.{down_pos}
use lib.Ieee.Exact.{HasValue}

-- a number from 2^a to below 2^(a+1) has a + 1 digits
pub size_is : (n a : ℕ) → 2 ^ a ≤ n → n < 2 ^ suc a → size n ≡ suc a
size_is n a l h = le_antisymm (size-le n (suc a) h) (lt_of_not-le (λ (g : size n ≤ a). not-le_of_lt (lt_of_lt_of_le (size-lt n) (pow_mono g)) l))

-- the bits of a float whose size is a of the format's smallest values: the sign, how many of a's digits do not fit, and those that do
abbrev pub bits_of_units : Format → Bool → ℕ → ℕ
bits_of_units f s a = cond s (top f) 0 + (size a - prec f) * hid f + a / 2 ^ (size a - prec f)

pub value-bits : (f : Format) (x : Float) (s : Bool) (a : ℕ) → HasValue x s a (2 ^ low f) → to_bits f x ≡ bits_of_units f s a
unfolding to_bits
value-bits f nan s a h = absurd h
value-bits f (inf t) s a h = absurd h
value-bits f (fin t m e) s a h =
    let same : m * up e * 2 ^ low f / down e ≡ a = ap (λ (x : ℕ). x / down e) h.1 ∙ mul-div_cancel a (down_pos e) in
    ap (λ (b : Bool). bits_of_units f b (m * up e * 2 ^ low f / down e)) h.0 ∙ ap (bits_of_units f s) same

-- a float has one sign and, over one denominator, one size
pub value_once : (x : Float) (s t : Bool) (a b c : ℕ) → HasValue x s a c → HasValue x t b c → (s ≡ t) × (a ≡ b)
value_once nan s t a b c h k = absurd h
value_once (inf u) s t a b c h k = absurd h
value_once (fin u m e) s t a b c h k = (sym h.0 ∙ k.0, eq_of_mul-eq-mul_right (down e) (down_pos e) a b (sym h.1 ∙ k.1))

-- the same size over a denominator n times as large
pub value_scaled : (x : Float) (s : Bool) (a c n : ℕ) → HasValue x s a c → HasValue x s (a * n) (c * n)
value_scaled nan s a c n h = h
value_scaled (inf t) s a c n h = h
value_scaled (fin t m e) s a c n h = (h.0, sym (mul_assoc (m * up e) c n) ∙ ap (λ (x : ℕ). x * n) h.1 ∙ mul_right_comm a (down e) n)
