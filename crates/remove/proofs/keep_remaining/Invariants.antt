use Rattle.record.specs.Section.{sections}
use Rattle.remove.proofs.Reducing.{Kept}
use Rattle.remove.proofs.keep_remaining.Given as goal

abbrev pub invariant-loop-i : goal.invariant-loop-i
invariant-loop-i l = Kept l.initial.table l.g (sections l.patch.bytes.now l.patch.groups) l.table l.kept l.i
