-- Row counts by section number.
use Rattle.std.specs.Prelude.{ℕ, ◌+◌, Bool, List, ltb}
use Rattle.std.proofs.Math.Option.{Option, none, some}
use Rattle.lists.specs.Lists.{occurrences}
use Rattle.columns.specs.Columns.{column_keys}
use Rattle.record.specs.Section.{Section, find}
use Rattle.table.specs.Calls.{most_rows}

-- the row count of a section, if there is one
abbrev pub count_of : Option Section → ℕ
count_of none = 0
count_of (some t) = t.count

-- the row count that a table holds of section k
abbrev pub count_in : ℕ → List Section → ℕ
count_in k ts = count_of (find k ts)

-- c rows and those of the column with the number k are more than a count can say
abbrev pub count_overflows : List ℕ → ℕ → ℕ → Bool
count_overflows ks k c = ltb most_rows (c + occurrences k (column_keys ks))
