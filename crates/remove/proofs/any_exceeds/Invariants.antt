use mathlib.Core.Bool.{Bool}
use mathlib.Core.List.{List}
use Rattle.lists.proofs.Scanning.{Undecided}
use Rattle.record.specs.Section.{Section, sections}
use Rattle.remove.specs.Remaining.{exceeds}
use Rattle.remove.proofs.Reducing.{left_by}
use Rattle.remove.proofs.any_exceeds.Given as goal

-- what the patch ps leaves of the section t exceeds
abbrev test : List Section → Section → Bool
test ps t = exceeds (left_by ps t)

abbrev pub invariant-loop-i : goal.invariant-loop-i
invariant-loop-i l = Undecided (test (sections l.patch.bytes.now l.patch.groups)) (sections l.t.bytes.now l.t.groups) l.i
