use mathlib.Core.Path.{sym}
use Rattle.table.proofs.State.{length-sections}
use Rattle.totals.proofs.table_totals.Goals as goal

pub returns : goal.returns
returns c = let t = c.args.t in λ i. record { groups = sym (length-sections t.bytes.now t.groups) i; count = c.row_total.ensures i }
