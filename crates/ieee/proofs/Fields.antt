-- What the bits of a format stand for: sign, exponent field and digits, and from them finiteness and value.
use mathlib.Core.Path.{◌≡◌, refl, sym, ap, ap₂, ◌∙◌, subst}
use mathlib.Core.Bool.{Bool, true, false, not, cond}
use Prim.Native.Nat.{ℕ, zero, suc, ◌+◌, ◌-◌, ◌*◌, ◌/◌, ◌%◌, ◌^◌, ◌<◌}
use native.Mathlib.Numerals.{sub-one}
use native.Mathlib.Decide.{dec_lt}
use native.Mathlib.Nat.{div-eq_of_lt, div-eq_of_lt-le}
use native.Mathlib.Omega.{arith}
use borrow.Author.Tests.{eq-eqb, ne_eqb, le-leb, lt-leb}
use lib.Dec.{leb, eqb, eqb-suc-zero}
use lib.Ieee.{Format, binary32, binary64, nan, inf, prec, low, hid, ones, top, odd, of_fields, of_bits}
use lib.Ieee.Exact.{HasValue, odd_sign}
use lib.Ieee.Scale as Scale

-- a number written with an odd significand is finite
odd_finite : (d : ℕ) (s : Bool) (q k l : ℕ) → Scale.finite (odd d s q k l) ≡ true
unfolding odd
odd_finite d s zero k l = refl
odd_finite d s (suc q) k l = refl

-- the field of the infinities is not 0
ones_not_0 : (f : Format) → not (eqb 0 (ones f)) ≡ true
ones_not_0 binary32 = refl
ones_not_0 binary64 = refl

-- the significand: a field of 0 has no leading digit
abbrev pub field_significand : Format → ℕ → ℕ → ℕ
field_significand f x t = cond (eqb x 0) t (hid f + t)

module _ (f : Format) (s : Bool) where
  fields_finite : (x t : ℕ) → Scale.finite (of_fields f s x t) ≡ not (eqb x (ones f))
  unfolding of_fields
  fields_finite zero t = odd_finite (prec f) s t 0 (low f) ∙ sym (ones_not_0 f)
  fields_finite (suc x) t = go (eqb (suc x) (ones f))
    where
      none : (b : Bool) → Scale.finite (cond b (inf s) nan) ≡ false
      none true = refl
      none false = refl

      go : (b : Bool) → Scale.finite (cond b (cond (eqb t 0) (inf s) nan) (odd (prec f) s (hid f + t) x (low f))) ≡ not b
      go true = none (eqb t 0)
      go false = odd_finite (prec f) s (hid f + t) x (low f)

  fields_value : (x t : ℕ) → not (eqb x (ones f)) ≡ true → HasValue (of_fields f s x t) s (field_significand f x t * 2 ^ (x - 1)) (2 ^ low f)
  unfolding of_fields
  fields_value zero t h = odd_sign (prec f) s t 0 (low f)
  fields_value (suc x) t h = go (eqb (suc x) (ones f)) h
    where
      same : field_significand f (suc x) t * 2 ^ (suc x - 1) ≡ (hid f + t) * 2 ^ x
      same = ap₂ (λ (b : Bool) (k : ℕ). cond b t (hid f + t) * 2 ^ k) (eqb-suc-zero x) (sub-one (suc x))

      go : (b : Bool) → not b ≡ true
          → HasValue (cond b (cond (eqb t 0) (inf s) nan) (odd (prec f) s (hid f + t) x (low f))) s (field_significand f (suc x) t * 2 ^ (suc x - 1)) (2 ^ low f)
      go true k = let z : ◌≡◌ {A = ℕ} 0 1 = cc in absurd (omega arith)
      go false k = subst (λ (a : ℕ). HasValue (odd (prec f) s (hid f + t) x (low f)) s a (2 ^ low f)) (sym same) (odd_sign (prec f) s (hid f + t) x (low f))

-- the sign, read as a test of the highest of the bits
pub upper : (h b : ℕ) → b < 2 * h → eqb (b / h) 1 ≡ leb h b
upper h b l =
    elim (dec_lt b h) [
      | yes k ↦ ne_eqb (b / h) 1 (λ e. let z = div-eq_of_lt k in omega arith) ∙ sym (lt-leb h b k)
      | no k ↦ eq-eqb (b / h) 1 (div-eq_of_lt-le h (omega arith) (omega arith)) ∙ sym (le-leb h b (omega arith))
    ]

module _ (f : Format) (b : ℕ) (x : ℕ) (e : b % top f / hid f ≡ x) where
  -- the patterns that are no infinity and no NaN are the finite ones
  pub bits_finite : Scale.finite (of_bits f b) ≡ not (eqb x (ones f))
  unfolding of_bits
  bits_finite = fields_finite f (leb (top f) b) (b % top f / hid f) (b % hid f) ∙ ap (λ (y : ℕ). not (eqb y (ones f))) e

  -- a finite pattern's float has its sign, and its size in the format's smallest values
  pub bits-value : b < 2 * top f → not (eqb x (ones f)) ≡ true → HasValue (of_bits f b) (eqb (b / top f) 1) (field_significand f x (b % hid f) * 2 ^ (x - 1)) (2 ^ low f)
  unfolding of_bits
  bits-value h n =
      rw (upper (top f) b h)
      (subst (λ (y : ℕ). HasValue (of_fields f (leb (top f) b) y (b % hid f)) (leb (top f) b) (field_significand f x (b % hid f) * 2 ^ (x - 1)) (2 ^ low f)) (sym e)
      (fields_value f (leb (top f) b) x (b % hid f) n))
