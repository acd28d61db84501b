-- What the terms of demand 3 mean, apart from how they are defined.
use Rattle.std.specs.Prelude.{ℕ, ◌%◌, ◌^◌, ◌≤◌, ◌<◌, ◌≡◌, true, cond, List, eqb, length, get_or}
use Rattle.level.specs.Double.{finite_bits, magnitude}
use Rattle.level.specs.Finest.{highest_power, finest_of}
use Rattle.lists.specs.Lists.{any_of, occurrences}
use Rattle.columns.specs.Columns.{Row}
use Rattle.history.specs.Rows.{Permutation, SameRows, section_numbers, largest}

-- "the same rows, repeats counted", "distinct section numbers", "its largest row in size" and Card 7's "finest power"
pub record Terms : Type 0 where
  -- rows are the same just where the one list is the other in some order
  pub same_if : (xs ys : List Row) → Permutation xs ys → SameRows xs ys
  pub same_only_if : (xs ys : List Row) → SameRows xs ys → Permutation xs ys
  -- the number of a row stands once among the distinct section numbers, any other number not at all
  pub numbers_once : (k : ℕ) (rows : List Row) → occurrences k (section_numbers rows) ≡ cond (any_of (λ (r : Row). eqb k r.key) rows) 1 0
  -- the largest size is that of one of the rows, and none has a larger one
  pub largest_one : (bs : List ℕ) → 0 < length bs → (i : ℕ) × (i < length bs) × (largest bs ≡ magnitude (get_or bs i 0))
  pub largest_all : (bs : List ℕ) (i : ℕ) → i < length bs → magnitude (get_or bs i 0) ≤ largest bs
  -- every row is a whole multiple of 2^(z - 1074) for the finest power z; where one of them is finite and not zero, it is so for no larger one
  pub finest_whole : (bs : List ℕ) (i : ℕ) → i < length bs → magnitude (get_or bs i 0) % 2 ^ finest_of bs ≡ 0
  pub finest_most : (bs : List ℕ) (i : ℕ) → i < length bs → finite_bits (get_or bs i 0) ≡ true → 0 < magnitude (get_or bs i 0)
      → (z : ℕ) → ((j : ℕ) → j < length bs → magnitude (get_or bs j 0) % 2 ^ z ≡ 0) → z ≤ finest_of bs
  -- it is 2098 for rows that are all zero, and smaller for others
  pub finest_of_zeros : (bs : List ℕ) → ((i : ℕ) → i < length bs → magnitude (get_or bs i 0) ≡ 0) → finest_of bs ≡ highest_power
  pub finest_of_others : (bs : List ℕ) (i : ℕ) → i < length bs → finite_bits (get_or bs i 0) ≡ true → 0 < magnitude (get_or bs i 0) → finest_of bs < highest_power
