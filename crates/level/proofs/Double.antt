-- The significand and the size of a row, by its exponent field.
use mathlib.Core.Path.{◌≡◌}
use mathlib.Core.Bool.{Bool, true, false, cond}
use Prim.Native.Nat.{ℕ, ◌+◌, ◌^◌, ◌<◌}
use native.Mathlib.Nat.{mul-one}
use native.Mathlib.Omega.{arith}
use lib.Dec.{eqb}
use borrow.Author.Tests.{eq-eqb, ne_eqb}
use Rattle.level.specs.Double.{exponent_field, fraction, significand, magnitude}

pub significand_subnormal : (b : ℕ) → exponent_field b ≡ 0 → significand b ≡ fraction b
significand_subnormal b e = rw (eq-eqb (exponent_field b) 0 e)

pub significand_normal : (b : ℕ) → (exponent_field b ≡ 0 → ⊥) → significand b ≡ 2 ^ 52 + fraction b
significand_normal b n = rw (ne_eqb (exponent_field b) 0 n)

-- every significand has at most 53 bits
pub significand-lt : (b : ℕ) → significand b < 2 ^ 53
significand-lt b = go (eqb (exponent_field b) 0)
  where
    go : (t : Bool) → cond t (fraction b) (2 ^ 52 + fraction b) < 2 ^ 53
    go true = omega arith
    go false = omega arith

pub size_subnormal : (b : ℕ) → exponent_field b ≡ 0 → magnitude b ≡ fraction b
size_subnormal b e = rw (significand_subnormal b e, e) (mul-one (fraction b))
