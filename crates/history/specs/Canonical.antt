-- The table that document 01 fixes for a list of rows, given directly.
use Rattle.std.specs.Prelude.{ℕ, List, [], ◌∷◌, map}
use Rattle.std.proofs.Math.Option.{Option, none, some}
use Rattle.record.specs.Section.{Section, section_of}
use Rattle.columns.specs.Columns.{Row}
use Rattle.history.specs.Rows.{section_bits, section_numbers}

-- section k, where it has a row
unfoldable pub section_if : ℕ → List ℕ → Option Section
section_if k [] = none
section_if k (b ∷ bs) = some (section_of k (b ∷ bs))

-- the sections with a row, in rising order
unfoldable pub canonical : List Row → List Section
canonical rows = map (λ k. section_of k (section_bits k rows)) (section_numbers rows)
