use Prim.Native.Nat.{ℕ}
use mathlib.Core.Bool.{Bool}
use mathlib.Core.List.{List}
use Rattle.record.specs.Section.{Section, sections}
use Rattle.overflow.specs.Counts.{count_in, count_overflows}
use Rattle.columns.specs.Columns.{column_keys}
use Rattle.lists.proofs.Scanning.{Undecided}
use Rattle.overflow.proofs.row_overflows.Given as goal

abbrev test : List Section → List ℕ → ℕ → Bool
test ts ks k = count_overflows ks k (count_in k ts)

abbrev pub invariant-loop-i : goal.invariant-loop-i
invariant-loop-i l = Undecided (test (sections l.t.bytes.now l.t.groups) l.keys) (column_keys l.keys) l.i
