-- `print_columns` prints what the add to an empty table leaves, or its refusal.
use mathlib.Core.Path.{◌≡◌, sym, ap, ◌∙◌}
use mathlib.Core.List.{◌++◌}
use lib.ListN.{length}
use Rattle.codec.proofs.Laws.{AreBytes}
use Rattle.refusal.specs.Number.{number_of}
use Rattle.refusal.specs.Outcome.{accepted}
use Rattle.record.specs.Section.{sections}
use Rattle.refusal.specs.Answer.{outcome_of}
use Rattle.table.specs.Calls.{add_outcome}
use Rattle.report.specs.Text.{table_bytes, empty_table, line_feed, refusal_text, table_text, columns_text}
use Rattle.report.proofs.Whole.{columns_left, columns_accepted, columns_refused}
use Rattle.report.proofs.print_columns.Goals as goal
use Rattle.report.proofs.print_columns.Goals.{In-Ok, In-Err}

-- the text after an accepted add, and after a refused one
accepted-outcome : (c : In-Ok) → add_outcome c.args.columns.kind empty_table 0 c.args.columns.keys.now c.args.columns.values.now table_bytes ≡ accepted c.in-Ok.g
accepted-outcome c =
    -- asked on its own, so that a table of another length is refused by that number
    let l : length c.add.new.table ≡ table_bytes = c.add.auto.table in
    sym c.add.ensures.answer ∙ ap outcome_of c.in-Ok.is

key-bytes : (c : In-Ok) → AreBytes c.args.columns.keys.now
key-bytes c = c.args.columns.keys_fit

accepted-text : (c : In-Ok) → columns_text c.args.columns.kind c.args.columns.keys.now c.args.columns.values.now ≡ table_text (sections c.add.new.table c.in-Ok.g)
accepted-text c = rw c.add.ensures.content (columns_accepted c.args.columns.kind c.args.columns.keys.now c.args.columns.values.now c.in-Ok.g (key-bytes c) (accepted-outcome c))

refused-text : (c : In-Err) → columns_text c.args.columns.kind c.args.columns.keys.now c.args.columns.values.now ≡ refusal_text (number_of c.in-Err.r) ++ line_feed
refused-text c = columns_refused c.args.columns.kind c.args.columns.keys.now c.args.columns.values.now (number_of c.in-Err.r) (sym c.add.ensures.answer ∙ ap outcome_of c.in-Err.is)

pub known-requires : goal.known-requires
known-requires c =
    let d = (goal.at.known-requires c).In-Ok in
    let left = columns_left c.args.columns.kind c.args.columns.keys.now c.args.columns.values.now c.in-Ok.g (key-bytes d) (accepted-outcome d) in
    rw c.add.ensures.content left.table.is_sound_lem

pub print_table-requires : goal.print_table-requires
print_table-requires c = rw (c.known.ensures.0, c.known.ensures.1) (rw (accepted-text (goal.at.print_table-requires c).In-Ok) at c.requires)

pub print_refusal-requires : goal.print_refusal-requires
print_refusal-requires c = rw (refused-text (goal.at.print_refusal-requires c).In-Err) at c.requires

pub returns-in-Ok : goal.returns-in-Ok
returns-in-Ok c = rw (accepted-text (goal.at.returns-in-Ok c).In-Ok) (rw (c.known.ensures.0, c.known.ensures.1) at c.print_table.ensures)

pub returns-in-Err : goal.returns-in-Err
returns-in-Err c = rw (refused-text (goal.at.returns-in-Err c).In-Err) c.print_refusal.ensures
