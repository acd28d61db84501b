use mathlib.Core.Path.{◌≡◌, sym, ap, ◌∙◌, subst}
use lib.Ieee.Bits.{is_true}
use lib.Ieee.Scale.{finite}
use Rattle.refusal.specs.Number.{number_of}
use Rattle.refusal.specs.Answer.{outcome_of}
use Rattle.refusal.specs.Outcome.{refused}
use Rattle.record.specs.Section.{Section, meaning, kept}
use Rattle.finish.specs.Answer.{sum_answer}
use Rattle.finish.specs.Steps.{FiniteSum}
use Rattle.finish.proofs.Outcomes.{sum_for_lem, finite_for}
use Rattle.report.specs.Text.{line_with, last_fields, line_text}
use Rattle.report.proofs.Lines.{GivesLine, line-finished, unfinished}
use Rattle.report.proofs.print_section.Goals as goal
use Rattle.report.proofs.print_section.Goals.{In-Ok, After-record_sum}

-- where the line is finished
gives_line : (d : In-Ok) → GivesLine (meaning d.args.r.raw) d.in-Ok.line
gives_line d = line-finished (meaning d.args.r.raw) d.in-Ok.line (sym (ap outcome_of d.in-Ok.is) ∙ d.record_line.ensures)

-- where it is refused: what is printed in its place
refused-text : (d : After-record_sum) → line_with d.args.r.raw.key d.args.r.raw.count (last_fields (sum_answer d.record_sum.result) (refused (number_of d.in-Err.why))) ≡ line_text (meaning d.args.r.raw)
refused-text d =
    let here : Section = meaning d.args.r.raw in
    let sum-here = ap sum_answer d.record_sum.ensures ∙ sum_for_lem here in
    rw sum-here (unfinished here (number_of d.in-Err.why) (sym (ap outcome_of d.in-Err.is) ∙ d.record_line.ensures))

pub print_line-requires : goal.print_line-requires
print_line-requires c =
    let line = gives_line (goal.at.print_line-requires c).In-Ok in
    record { fits = rw line.1 c.requires; finite_sum = is_true (finite c.in-Ok.line.sum) line.0 }

pub print_unfinished-requires : goal.print_unfinished-requires
print_unfinished-requires c = record {
  fits = rw (refused-text c) c.requires;
  finite_sum = subst FiniteSum (sym c.record_sum.ensures) (finite_for (kept (meaning c.args.r.raw)));
}

pub returns-in-Ok : goal.returns-in-Ok
returns-in-Ok c = rw (← (gives_line (goal.at.returns-in-Ok c).In-Ok).1) c.print_line.ensures

pub returns-in-Err : goal.returns-in-Err
returns-in-Err c = rw (← refused-text (goal.at.returns-in-Err c).After-record_sum) c.print_unfinished.ensures
