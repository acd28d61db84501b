use Prim.Native.Nat.{◌+◌, ◌*◌, ◌≤◌}
use mathlib.Core.Path.{◌≡◌}
use lib.ListN.{drop}
use Rattle.record.specs.Section.{sections}
use Rattle.table.specs.Calls.{most_rows}
use Rattle.totals.specs.Totals.{row_total}
use Rattle.totals.proofs.row_total.Given as goal

abbrev pub invariant-loop-i : goal.invariant-loop-i
invariant-loop-i l = record {
  added_up : l.count + row_total (drop l.i (sections l.t.bytes.now l.t.groups)) ≡ row_total (sections l.t.bytes.now l.t.groups);
  few_rows : l.count ≤ l.i * most_rows;
}
