use Rattle.record.specs.Section.{sections}
use Rattle.report.specs.Text.{head_line}
use Rattle.report.proofs.Whole.{table_parts}
use Rattle.report.proofs.print_table.Goals as goal

pub returns : goal.returns
unfolding head_line
returns c =
    rw (c.print_totals.ensures, c.table_totals.ensures, c.print_sections.ensures, c.push_bytes.ensures)
    (table_parts c.args.text.now (sections c.args.t.bytes.now c.args.t.groups))
