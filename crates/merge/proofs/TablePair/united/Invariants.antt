use Prim.Native.Nat.{◌+◌}
use Rattle.merge.proofs.Counting.{Counted}
use Rattle.merge.proofs.TablePair.united.Given as goal

abbrev pub invariant-loop-both : goal.invariant-loop-both
invariant-loop-both l = Counted l.self l.n l.both

abbrev pub decreases-loop-both : goal.decreases-loop-both
decreases-loop-both l = l.both.first.groups + l.both.second.groups
