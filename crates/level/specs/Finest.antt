-- Card 7's finest power of rows: the largest z for which every row is a whole multiple of 2^(z - 1074). Sizes count units of 2^-1074, so that is a multiple of 2^z.
use Rattle.std.specs.Prelude.{ℕ, zero, suc, ◌%◌, ◌^◌, Bool, true, cond, ◌&&◌, List, [], ◌∷◌, eqb}
use Rattle.level.specs.Double.{magnitude}

-- the finest power of rows that are all zero; of finite rows that are not all zero it is smaller
abbrev pub highest_power : ℕ
highest_power = 2098

-- the row is a whole multiple of 2^(z - 1074)
abbrev pub is_multiple : ℕ → ℕ → Bool
is_multiple z b = eqb (magnitude b % 2 ^ z) 0

-- every row is
unfoldable pub all_multiples : ℕ → List ℕ → Bool
all_multiples z [] = true
all_multiples z (b ∷ bs) = is_multiple z b && all_multiples z bs

-- the largest z up to n that has p, where 0 has it
unfoldable pub largest_with : (ℕ → Bool) → ℕ → ℕ
largest_with p zero = 0
largest_with p (suc n) = let lower = largest_with p n in cond (p (suc n)) (suc n) lower

-- the finest power of rows; an empty list has that of zeros
unfoldable pub finest_of : List ℕ → ℕ
unfolding all_multiples largest_with
finest_of bs = largest_with (λ z. all_multiples z bs) highest_power

-- the finest power of one row
abbrev pub finest : ℕ → ℕ
finest b = finest_of (b ∷ [])
