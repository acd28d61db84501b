-- A section's three totals with a bias of 2^72, so that none is negative, in limbs.
use Rattle.std.specs.Prelude.{ℕ, ◌+◌, ◌*◌, ◌^◌, ◌≡◌, List, ℤ, pos, nat_abs, ◌+ℤ◌}
use Rattle.level.specs.declared.SplitTotal.{SplitTotal}
use Rattle.level.specs.Carry.{carry_base}
use Rattle.limbs.specs.Limbs.{value_of, Reduced}

-- what is added to a carry
abbrev pub carry_bias : ℕ
carry_bias = 2 ^ 22

-- what that adds to a total
abbrev pub total_bias : ℕ
total_bias = 2 ^ 72

-- the carry of a biased total
abbrev pub biased_carry : ℤ → ℕ
biased_carry c = nat_abs (c +ℤ pos carry_bias)

-- a biased total: its residue and that carry
abbrev pub biased_total : SplitTotal → ℕ
biased_total h = h.residue + carry_base * biased_carry h.carry

-- r holds three numbers, each one limb above the next
pub record Stacked (high middle low : ℕ) (r : List ℕ) : Type 0 where
  pub reduced : Reduced r
  pub same : value_of r ≡ low + 2 ^ 40 * middle + 2 ^ 80 * high
