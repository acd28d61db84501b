use Prim.Native.Nat.{ℕ}
use mathlib.Core.Bool.{Bool}
use mathlib.Core.List.{List}
use Rattle.record.specs.Section.{Section, sections}
use Rattle.overflow.specs.Counts.{count_overflows}
use Rattle.lists.proofs.Scanning.{Undecided}
use Rattle.overflow.proofs.section_overflows.Given as goal

abbrev test : List ℕ → Section → Bool
test ks s = count_overflows ks s.key s.count

abbrev pub invariant-loop-j : goal.invariant-loop-j
invariant-loop-j l = Undecided (test l.keys) (sections l.t.bytes.now l.t.groups) l.j
