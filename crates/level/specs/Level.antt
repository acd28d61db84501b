-- Levels, tops and contributions. Sizes count units of 2^-1074, so the unit of level j is 2^(40 j).
use Rattle.std.specs.Prelude.{ℕ, zero, suc, ◌-◌, ◌*◌, ◌^◌, max, cond, List, [], ◌∷◌, leb, ltb, eqb, ℤ, pos, negsuc, neg_ℤ, ◌+ℤ◌, ◌-ℤ◌, ◌*ℤ◌}
use Rattle.std.specs.Float.Ieee.Nearest.{closest}
use Rattle.level.specs.Double.{magnitude, value}

-- the unit of level j
abbrev pub unit : ℕ → ℕ
unit j = 2 ^ (40 * j)

-- how many units of its top a row's size stays below, and the largest size of a contribution
abbrev pub level_bound : ℕ
level_bound = 2 ^ 39

-- the smallest of the levels j, j + 1, .., j + k with n below 2^39 of its units; j + k if no earlier one has
unfoldable pub top_from : ℕ → ℕ → ℕ → ℕ
top_from zero j n = j
top_from (suc k) j n = let later = top_from k (suc j) n in cond (ltb n (level_bound * unit j)) j later

-- the top of a row
unfoldable pub top : ℕ → ℕ
unfolding top_from
top b = top_from 52 0 (magnitude b)

-- the whole number nearest to z / u, an exact half going to the even number
abbrev pub nearest_to : ℤ → ℕ → ℤ
nearest_to (pos n) u = pos (closest n u)
nearest_to (negsuc n) u = neg_ℤ (pos (closest (suc n) u))

-- what is left of z once level j has taken its units
abbrev pub left : ℤ → ℕ → ℤ
left z j = z -ℤ nearest_to z (unit j) *ℤ pos (unit j)

-- what z gives to level j, when it goes through the s levels s - 1, .., 0
unfoldable pub given : ℕ → ℤ → ℕ → ℤ
given zero z j = pos 0
given (suc s) z j = let lower = given s (left z s) j in cond (eqb j s) (nearest_to z (unit s)) lower

-- what a row gives to level j: it starts at its top
unfoldable pub contribution : ℕ → ℕ → ℤ
unfolding top given
contribution b j = given (suc (top b)) (value b) j

-- the whole number that a family of them, one a level, has k levels below level t; below level 0 there is 0
abbrev pub below : (ℕ → ℤ) → ℕ → ℕ → ℤ
below g t k = cond (leb k t) (g (t - k)) (pos 0)

-- the value of n levels of such a family, t and those below it
unfoldable pub level_sum : (ℕ → ℤ) → ℕ → ℕ → ℤ
level_sum g t zero = pos 0
level_sum g t (suc n) = level_sum g t n +ℤ below g t n *ℤ pos (unit (t - n))

-- the largest top among the rows
unfoldable pub top_of : List ℕ → ℕ
unfolding top
top_of [] = 0
top_of (b ∷ bs) = max (top b) (top_of bs)

-- the sum of the rows' contributions to level j
unfoldable pub total : List ℕ → ℕ → ℤ
unfolding contribution
total [] j = pos 0
total (b ∷ bs) j = contribution b j +ℤ total bs j

-- the rows' exact sum
unfoldable pub exact_sum : List ℕ → ℤ
exact_sum [] = pos 0
exact_sum (b ∷ bs) = value b +ℤ exact_sum bs
