-- The mill figure of a float, from its bits: the figure depends on the fraction alone.
use mathlib.Core.Path.{◌≡◌, sym, ap, ◌∙◌}
use mathlib.Core.Bool.{Bool, true, not, cond}
use Prim.Native.Nat.{ℕ, ◌+◌, ◌-◌, ◌*◌, ◌^◌, ◌≤◌, ◌<◌}
use native.Mathlib.Nat.{le_trans, le_of_eq, le-add_right, mul-le-mul, mul_right_comm, lt_irrefl}
use native.Mathlib.Omega.{arith}
use lib.Dec.{T}
use lib.Pow.{pow-add, pow_pos, pow_mono}
use lib.Ieee.{Float, nan, inf, fin, binary64, up, down, of_bits, to_bits, fits, is_nan}
use lib.Ieee.Fits.{down_pos}
use lib.Ieee.Bits.{of_bits-to_bits, to_bits-lt, is_true}
use lib.Ieee.Exact.{HasValue}
use lib.Ieee.Scale as Scale
use Rattle.refusal.specs.Outcome.{accepted, refused}
use Rattle.level.specs.Double.{exponent_field, fraction, significand, magnitude, negative, finite_bits, signed}
use Rattle.level.proofs.Double.{significand_normal}
use Rattle.level.proofs.Binary64.{finite_binary64, value_binary64}
use Rattle.finish.specs.Figure.{away_from_zero, mill_figure, beyond}
use Rattle.limbs.specs.Nearest.{nearest_by}
use Rattle.limbs.proofs.Nearest.{nearest-same}
use Rattle.finish.proofs.Hundredths.{hundredths_units, far, figure-beyond}

-- the size of the figure of n units
abbrev pub figure_size : ℕ → ℕ
figure_size n = nearest_by away_from_zero (n * 100) (2 ^ 1074)

value-figure : (x : Float) (s : Bool) (a : ℕ) → HasValue x s a (2 ^ 1074) → mill_figure x ≡ signed s (figure_size a)
unfolding mill_figure
value-figure nan s a h = absurd h
value-figure (inf t) s a h = absurd h
value-figure (fin t m e) s a h =
    let same : m * up e * 100 * 2 ^ 1074 ≡ a * 100 * down e = mul_right_comm (m * up e) 100 (2 ^ 1074) ∙ ap (λ (x : ℕ). x * 100) h.1 ∙ mul_right_comm a (down e) 100 in
    ap (λ (b : Bool). signed b (nearest_by away_from_zero (m * up e * 100) (down e))) h.0
    ∙ ap (λ (x : ℕ). signed s x) (nearest-same away_from_zero (m * up e * 100) (down e) (a * 100) (2 ^ 1074) (down_pos e) (pow_pos 1074) same)

pub not_nan : (x : Float) → T (Scale.finite x) → T (not (is_nan x))
unfolding is_nan
not_nan nan h = h
not_nan (inf s) h = tt
not_nan (fin s m e) h = tt

-- a finite float, by its bits
module _ (x : Float) (f : T (fits binary64 x)) (h : T (Scale.finite x)) where
  pub bits-figure : mill_figure x ≡ signed (negative (to_bits binary64 x)) (figure_size (magnitude (to_bits binary64 x)))
  bits-figure =
      let b = to_bits binary64 x in
      let e = of_bits-to_bits binary64 x f in
      let g : finite_bits b ≡ true = sym (finite_binary64 b) ∙ ap Scale.finite e ∙ is_true (Scale.finite x) h in
      ap mill_figure (sym e) ∙ value-figure (of_bits binary64 b) (negative b) (magnitude b) (value_binary64 b (to_bits-lt binary64 x f) g)

  -- where its field is at most 1074
  pub near-figure : (r : ℕ) → r + (exponent_field (to_bits binary64 x) - 1) ≡ 1074
      → signed (negative (to_bits binary64 x)) (nearest_by away_from_zero (significand (to_bits binary64 x) * 100) (2 ^ r)) ≡ mill_figure x
  near-figure r e =
      let b = to_bits binary64 x in
      ap (λ (n : ℕ). signed (negative b) n) (sym (hundredths_units away_from_zero (significand b) (exponent_field b - 1) r e)) ∙ sym bits-figure

  -- a field from 1075 on has a hidden digit, and its value is 2^52 at least
  pub far_figure : 1074 < exponent_field (to_bits binary64 x) → refused 15 ≡ cond (beyond (mill_figure x)) (refused 15) (accepted (mill_figure x))
  far_figure l =
      let b = to_bits binary64 x in
      let k : 1074 ≤ exponent_field b - 1 = omega arith in
      let g : 2 ^ 52 ≤ significand b = le_trans (le-add_right (2 ^ 52) (fraction b)) (le_of_eq (sym (significand_normal b (λ z. lt_irrefl 0 (omega arith))))) in
      let m : 2 ^ 1126 ≤ magnitude b = le_trans (le_of_eq (pow-add 2 52 1074)) (mul-le-mul g (pow_mono k)) in
      rw bits-figure (figure-beyond (negative b) (figure_size (magnitude b)) (far away_from_zero (magnitude b) m))
