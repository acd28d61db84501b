-- Which side of a number a rounded one is on.
use Rattle.std.specs.Prelude.{ℕ, zero, suc, ◌≡◌, cond, eqb, ltb, ℤ, pos, negsuc, neg_ℤ, ◌<ℤ◌}
use Rattle.std.specs.Ordering.{int_cmp}
use Rattle.limbs.specs.Packed.{rounded_units}
use Rattle.std.specs.declared.cmp.Ordering.{Ordering}
use Rattle.std.specs.declared.cmp.Ordering.TheVariants.{Less, Equal, Greater}

-- on which side of y is x: less, equal or greater
abbrev pub side_of : ℤ → ℤ → Ordering
side_of x y = int_cmp x y

-- the side of n units that their nearest double is on
abbrev pub packed_side : ℕ → Ordering
packed_side n = side_of (pos (rounded_units n)) (pos n)

-- what a side says of two numbers, apart from how it is found
abbrev pub Says : Ordering → ℤ → ℤ → Type 0
Says Less x y = x <ℤ y
Says Equal x y = x ≡ y
Says Greater x y = y <ℤ x

-- Card 2's number of a side
abbrev pub side_number : Ordering → ℤ
side_number Less = neg_ℤ (pos 1)
side_number Equal = pos 0
side_number Greater = pos 1

-- the side that a number says
abbrev pub side_said : ℤ → Ordering
side_said (pos zero) = Equal
side_said (pos (suc n)) = Greater
side_said (negsuc n) = Less

-- the side of the number n, to which a quotient q with this rest was rounded
abbrev pub rounded_side : ℕ → ℕ → ℕ → Ordering
rounded_side q rest n = cond (eqb rest 0) Equal (cond (ltb q n) Greater Less)
