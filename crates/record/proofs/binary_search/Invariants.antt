use Prim.Native.Nat.{◌+◌, ◌≤◌}
use Rattle.record.specs.Layout.{records}
use Rattle.record.specs.Keys.{record_keys, count_below}
use Rattle.record.proofs.binary_search.Given as goal

abbrev pub invariant-loop-n : goal.invariant-loop-n
invariant-loop-n l = (l.lo ≤ count_below l.key (record_keys (records l.t l.g))) × (count_below l.key (record_keys (records l.t l.g)) ≤ l.lo + l.n) × (l.lo + l.n ≤ l.g)

abbrev pub decreases-loop-n : goal.decreases-loop-n
decreases-loop-n l = l.n
