-- `print_file` prints what the columns of an accepted file print, or the file's refusal.
use mathlib.Core.Path.{◌≡◌, sym, ap, ◌∙◌}
use mathlib.Core.List.{◌++◌}
use Rattle.codec.proofs.Laws.{AreBytes}
use Rattle.patch.specs.File.{kind_of}
use Rattle.patch.proofs.File.{key-bytes, value-bytes}
use Rattle.refusal.specs.Number.{number_of}
use Rattle.refusal.specs.Answer.{outcome_of}
use Rattle.report.specs.Text.{refusal_text, line_feed, columns_text, report_text}
use Rattle.report.proofs.Whole.{file-accepted, file-refused}
use Rattle.report.proofs.print_file.Goals as goal
use Rattle.report.proofs.print_file.Goals.{After-new-columns, In-Err}

-- the text of a file that is read, and of one that is refused
accepted-text : (c : After-new-columns) → report_text c.args.file.now ≡ columns_text c.new-columns.result.kind c.new-columns.result.keys.now c.new-columns.result.values.now
accepted-text c = rw (c.new-columns.ensures.0, c.new-columns.ensures.1, c.new-columns.ensures.2, c.keys.ensures.content, c.values.ensures.content) (file-accepted c.args.file.now _ (sym c.read.ensures ∙ ap outcome_of c.in-Ok.is))

refused-text : (c : In-Err) → report_text c.args.file.now ≡ refusal_text (number_of c.in-Err.why) ++ line_feed
refused-text c = file-refused c.args.file.now (number_of c.in-Err.why) (sym c.read.ensures ∙ ap outcome_of c.in-Err.is)

pub print_columns-requires : goal.print_columns-requires
print_columns-requires c = rw (accepted-text (goal.at.print_columns-requires c).After-new-columns) at c.requires

pub print_refusal-requires : goal.print_refusal-requires
print_refusal-requires c = rw (refused-text (goal.at.print_refusal-requires c).In-Err) at c.requires

pub returns-in-Ok : goal.returns-in-Ok
returns-in-Ok c = rw (accepted-text (goal.at.returns-in-Ok c).After-new-columns) c.print_columns.ensures

pub returns-in-Err : goal.returns-in-Err
returns-in-Err c = rw (refused-text (goal.at.returns-in-Err c).In-Err) c.print_refusal.ensures
