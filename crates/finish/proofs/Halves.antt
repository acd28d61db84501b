-- The mill figure is the whole number nearest to 100 times the sum, an exact half going away from zero. The idea: of a product that is not negative the figure is
-- at most half a unit above, and less than half a unit below; then every larger number is farther away, and so is every negative one. What holds of two numbers
-- holds of both negated.
use mathlib.Core.Path.{◌≡◌, sym, ap, ◌∙◌}
use mathlib.Core.Logic.{⊎_elim}
use mathlib.Core.Bool.{Bool, true, false}
use Prim.Native.Nat.{ℕ, suc, ◌+◌, ◌*◌, ◌^◌, ◌≤◌, ◌<◌}
use native.Mathlib.Nat.{mul-le-mul_right, eq-or-lt_of_le, le_of_lt, ne_of_lt}
use native.Mathlib.Omega.{arith}
use lib.IntN.{ℤ, pos, negsuc, neg_ℤ, neg_ℤ-neg_ℤ, nat_abs, ◌-ℤ◌, ◌*ℤ◌}
use lib.Dec.{T}
use lib.Pow.{pow_pos}
use lib.Ieee.{Float, binary64, to_bits, fits}
use lib.Ieee.Scale.{finite}
use Rattle.integers.proofs.Naturals.{le_or_lt}
use Rattle.integers.proofs.Laws.{nat_abs-neg}
use Rattle.integers.proofs.Diff.{ints, by_parts₂}
use Rattle.level.specs.Cut.{abs_diff}
use Rattle.level.specs.Double.{signed, negative, magnitude}
use Rattle.level.proofs.Signs.{signed_mul}
use Rattle.limbs.specs.Nearest.{nearest_by}
use Rattle.limbs.proofs.Nearest.{nearest-within}
use Rattle.finish.specs.Side.{double_value}
use Rattle.finish.specs.Figure.{away_from_zero, units_apart, NearestAway, mill_figure}
use Rattle.finish.proofs.Nearest.{near_best, same_sign, other_sign}
use Rattle.finish.proofs.Fraction.{bits-figure}

-- ---- of a size n: q units u are at most half a unit above it, and less than half a unit below

module _ (n u q : ℕ) (p : 0 < u) (upper : q * u * 2 ≤ n * 2 + u) (lower : n * 2 < q * u * 2 + u) where
  larger_farther : (x : ℕ) → q < x → abs_diff n (q * u) < abs_diff n (x * u)
  larger_farther x l = let m : suc q * u ≤ x * u = mul-le-mul_right u l in omega arith

  negative_farther : (x : ℕ) → abs_diff n (q * u) < n + suc x * u
  negative_farther x = omega arith

  plus_apart : (x : ℕ) → units_apart u (pos n) (pos x) ≡ abs_diff n (x * u)
  plus_apart x = same_sign false n (x * u)

  minus_apart : (x : ℕ) → units_apart u (pos n) (negsuc x) ≡ n + suc x * u
  minus_apart x = ap (λ (z : ℤ). nat_abs (pos n -ℤ z)) (signed_mul true (suc x) u) ∙ other_sign false n (suc x * u)

  size_near : (w : ℤ) → units_apart u (pos n) (pos q) ≤ units_apart u (pos n) w
  size_near (pos x) = rw (plus_apart q, plus_apart x) (near_best n u x q p upper (le_of_lt lower))
  size_near (negsuc x) = rw (plus_apart q, minus_apart x) (le_of_lt (negative_farther x))

  size_away : (w : ℤ) → (w ≡ pos q → ⊥) → units_apart u (pos n) (pos q) ≡ units_apart u (pos n) w → nat_abs w < q
  size_away (pos x) d e =
      ⊎_elim (λ g. absurd (⊎_elim (λ c. d (ap pos (sym c))) (λ l. ne_of_lt (larger_farther x l) (sym (plus_apart q) ∙ e ∙ plus_apart x)) (eq-or-lt_of_le g))) (λ l. l) (le_or_lt q x)
  size_away (negsuc x) d e = absurd (ne_of_lt (negative_farther x) (sym (plus_apart q) ∙ e ∙ minus_apart x))

-- ---- of both negated

apart_negated : (u : ℕ) (v w : ℤ) → units_apart u (neg_ℤ v) w ≡ units_apart u v (neg_ℤ w)
apart_negated u = by_parts₂ _ (λ a b c d. simp ints (omega arith))

pub nearest-negated : (u : ℕ) (v z : ℤ) → NearestAway u v z → NearestAway u (neg_ℤ v) (neg_ℤ z)
nearest-negated u v z h =
    let same : units_apart u (neg_ℤ v) (neg_ℤ z) ≡ units_apart u v z = apart_negated u v (neg_ℤ z) ∙ ap (units_apart u v) (neg_ℤ-neg_ℤ z) in
    record {
      near = λ w. rw (same, apart_negated u v w) (h.near (neg_ℤ w));
      away = λ w d e. rw (nat_abs-neg z, ← nat_abs-neg w) (h.away (neg_ℤ w) (λ c. d (sym (neg_ℤ-neg_ℤ w) ∙ ap neg_ℤ c)) (sym same ∙ e ∙ apart_negated u v w));
    }

size_nearest : (n u : ℕ) → 0 < u → NearestAway u (pos n) (pos (nearest_by away_from_zero n u))
size_nearest n u p =
    let d = nearest-within away_from_zero n u p in
    let q = nearest_by away_from_zero n u in
    record { near = size_near n u q p d.0 d.1; away = size_away n u q p d.0 d.1 }

signed-nearest : (s : Bool) (n u : ℕ) → 0 < u → NearestAway u (signed s n) (signed s (nearest_by away_from_zero n u))
signed-nearest false n u p = size_nearest n u p
signed-nearest true n u p = nearest-negated u (pos n) (pos (nearest_by away_from_zero n u)) (size_nearest n u p)

-- ---- of a finite double

pub nearest-figure : (x : Float) → T (fits binary64 x) → T (finite x) → NearestAway (2 ^ 1074) (double_value x *ℤ pos 100) (mill_figure x)
nearest-figure x f h =
    let b = to_bits binary64 x in
    rw (bits-figure x f h, signed_mul (negative b) (magnitude b) 100) (signed-nearest (negative b) (magnitude b * 100) (2 ^ 1074) (pow_pos 1074))
