use Prim.Native.Nat.{◌+◌}
use Rattle.merge.proofs.Writing.{Unwritten}
use Rattle.merge.proofs.write_union.Given as goal

abbrev pub invariant-loop-b : goal.invariant-loop-b
invariant-loop-b l = Unwritten l.initial.first l.g1 l.second_table.bytes.now l.second_table.groups l.first l.a l.b l.k

abbrev pub decreases-loop-b : goal.decreases-loop-b
decreases-loop-b l = l.a + l.b
