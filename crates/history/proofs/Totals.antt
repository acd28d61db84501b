-- The totals of the table that some rows fix: it is what an add of all of them to an empty table gives, and an add loses no row.
use mathlib.Core.Path.{◌≡◌, sym, ap, ◌∙◌}
use mathlib.Core.List.{List, []}
use native.Mathlib.Omega.{arith}
use lib.ListN.{length}
use Rattle.columns.specs.Columns.{Row}
use Rattle.totals.specs.Totals.{row_total, table_totals}
use Rattle.totals.proofs.Rows.{row-total-added}
use Rattle.history.specs.Rows.{section_numbers, rows_totals}
use Rattle.history.specs.Canonical.{canonical}
use Rattle.history.proofs.Canonical.{added-canonical}
use Rattle.history.proofs.Tables.{length-canonical}

row-total-canonical : (rows : List Row) → row_total (canonical rows) ≡ length rows
unfolding canonical section_numbers row_total
row-total-canonical rows = ap row_total (sym (added-canonical [] rows)) ∙ omega (arith, row-total-added [] rows)

pub totals-canonical : (rows : List Row) → table_totals (canonical rows) ≡ rows_totals rows
totals-canonical rows =
    let groups = length-canonical rows in
    let count = row-total-canonical rows in
    λ i. record { groups = groups i; count = count i }
