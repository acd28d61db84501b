-- How a level's total is kept: T = carry × 2^50 + residue, with the residue from 0 to 2^50 - 1.
use Rattle.std.specs.Prelude.{ℕ, ◌-◌, ◌%◌, ◌^◌, ◌<◌, ℤ, pos, negsuc, nat_abs, ◌+ℤ◌, ◌*ℤ◌}
use Rattle.std.specs.Int.Signed.{shr_z}
use Rattle.level.specs.declared.SplitTotal.{SplitTotal}

-- what a carry counts in
abbrev pub carry_base : ℕ
carry_base = 2 ^ 50

-- the total divided by 2^50, rounded down
abbrev pub carry_of : ℤ → ℤ
carry_of z = shr_z z carry_base

-- what is then left
abbrev pub residue_of : ℤ → ℕ
residue_of (pos n) = n % carry_base
residue_of (negsuc n) = carry_base - 1 - n % carry_base

-- the total as it is kept
abbrev pub split_of : ℤ → SplitTotal
split_of z = record { residue = residue_of z; carry = carry_of z }

-- the total that is kept
abbrev pub total_of : SplitTotal → ℤ
total_of h = h.carry *ℤ pos carry_base +ℤ pos h.residue

-- the residue is in range and the carry below 2^22 in size, as for every total of at most 2^71 in size
abbrev pub InRange : SplitTotal → Type 0
InRange h = (h.residue < carry_base) × (nat_abs h.carry < 2 ^ 22)
