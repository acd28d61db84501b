-- What is read off a list of rows: how often each occurs, the sections they name, how many sections and rows there are, the values and the largest size of a section's rows.
use Rattle.std.specs.Prelude.{ℕ, ◌+◌, max, ◌≡◌, Bool, cond, ◌&&◌, List, [], ◌∷◌, ltb, eqb, length}
use Rattle.level.specs.Double.{magnitude}
use Rattle.columns.specs.Columns.{Row}
use Rattle.totals.specs.declared.TableTotals.{TableTotals}

-- two rows have the same number and the same bits
abbrev pub equal_rows : Row → Row → Bool
equal_rows r s = eqb r.key s.key && eqb r.bits s.bits

-- how often r stands among the rows
unfoldable pub occurs : Row → List Row → ℕ
occurs r [] = 0
occurs r (s ∷ ss) = cond (equal_rows r s) 1 0 + occurs r ss

-- ys is xs in some order
pub data Permutation : List Row → List Row → Type 0 where
  unmoved : {xs : List Row} → Permutation xs xs
  prepended : {x : Row} {xs ys : List Row} → Permutation xs ys → Permutation (x ∷ xs) (x ∷ ys)
  swapped : {x y : Row} {xs : List Row} → Permutation (x ∷ y ∷ xs) (y ∷ x ∷ xs)
  chained : {xs ys zs : List Row} → Permutation xs ys → Permutation ys zs → Permutation xs zs

-- the same rows, repeats counted: the same multiset of rows
pub record SameRows (xs ys : List Row) : Type 0 where
  pub counts : (r : Row) → occurs r xs ≡ occurs r ys

-- the values of section k's rows, by their bits
unfoldable pub section_bits : ℕ → List Row → List ℕ
section_bits k [] = []
section_bits k (r ∷ rs) = cond (eqb k r.key) (r.bits ∷ section_bits k rs) (section_bits k rs)

-- k put in its place among rising numbers, unless it is there
unfoldable pub insert_key : ℕ → List ℕ → List ℕ
insert_key k [] = k ∷ []
insert_key k (l ∷ ls) = cond (ltb k l) (k ∷ l ∷ ls) (cond (eqb k l) (l ∷ ls) (l ∷ insert_key k ls))

-- the distinct section numbers of the rows, rising
unfoldable pub section_numbers : List Row → List ℕ
section_numbers [] = []
section_numbers (r ∷ rs) = insert_key r.key (section_numbers rs)

-- how many distinct sections the rows have, and how many rows there are
abbrev pub rows_totals : List Row → TableTotals
rows_totals rows = record { groups = length (section_numbers rows); count = length rows }

-- the size of the largest row
unfoldable pub largest : List ℕ → ℕ
largest [] = 0
largest (b ∷ bs) = max (magnitude b) (largest bs)
