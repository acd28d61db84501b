-- What a table holds for a list of rows, where its tops may be larger than the rows' own and its finest powers smaller: a removal leaves both as they were.
use Rattle.std.specs.Prelude.{ℕ, ◌≤◌, ◌<◌, ◌≡◌, List, length}
use Rattle.std.proofs.Math.Option.{Option, none, some}
use Rattle.level.specs.Level.{top_of, total}
use Rattle.level.specs.Finest.{finest_of}
use Rattle.record.specs.Section.{Section, section_at}

-- section k of rows with the bits bs, held at the top t with the finest power z: their number, and the sums of their contributions to the three levels
unfoldable pub held_at : ℕ → List ℕ → ℕ → ℕ → Section
held_at k bs t z = section_at k (length bs) t z (total bs)

-- what is found for section k: nothing where it has no row, else its section held at a top at least, and with a finest power at most, that of its rows
pub data HoldsBits (k : ℕ) (bs : List ℕ) : Option Section → Type 0 where
  without_record : length bs ≡ 0 → HoldsBits k bs none
  with_record : (t z : ℕ) → 0 < length bs → top_of bs ≤ t → z ≤ finest_of bs → HoldsBits k bs (some (held_at k bs t z))
