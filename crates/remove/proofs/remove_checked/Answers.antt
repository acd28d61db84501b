-- `remove_checked` tests the columns, then whether a section has more rows than a count can say, and takes out what passed.
use mathlib.Core.Path.{◌≡◌, sym, ap, ap₂, ◌∙◌}
use mathlib.Core.List.{List}
use borrow.Author.Rules.{rules}
use lib.ListN.{length}
use Rattle.lists.specs.Lists.{any_of}
use Rattle.refusal.specs.Outcome.{accepted, refused}
use Rattle.refusal.specs.Number.{number_of}
use Rattle.record.specs.Section.{Section, sections}
use Rattle.codec.proofs.Laws.{AreBytes}
use Rattle.refusal.specs.Answer.{outcome_of}
use Rattle.std.proofs.lemmas.Result.{err_from_is_err_and}
use Rattle.columns.specs.Columns.{rows_of}
use Rattle.table.specs.Combine.{added}
use Rattle.table.specs.Calls.{overflows, column_outcome}
use Rattle.table.proofs.Accepted.{proper_none}
use Rattle.add.proofs.Answers.{good_table, good_work, good_columns}
use Rattle.remove.specs.Calls.{patch_sections}
use Rattle.remove.proofs.Answers.{no_sections, too_few, bad_columns, by_sections}
use Rattle.remove.proofs.Fewer.{counts_few, more_rows}
use Rattle.remove.proofs.remove_checked.Goals as goal
use Rattle.remove.proofs.remove_checked.Goals.{After-any_overflow-too_many, In_ok-check_columns}

-- where the columns were found good
module _ (c : In_ok-check_columns) where
  good-here : let a = c.args.columns in column_outcome a.kind c.args.table.now c.args.g a.keys.now a.values.now (length c.args.work.now) ≡ accepted tt
  good-here = sym c.check_columns.ensures ∙ ap outcome_of c.in_ok-check_columns.was

-- whether the patch has a section of more rows than a count can say
module _ (o : After-any_overflow-too_many) where
  overflowing : o.any_overflow-too_many.result ≡ any_of overflows (patch_sections o.args.columns.kind o.args.columns.keys.now o.args.columns.values.now)
  overflowing =
      let a = o.args.columns in
      o.any_overflow-too_many.ensures a.kind a.values.now
      ∙ ap (λ (ts : List Section). any_of overflows (added ts (rows_of a.kind a.keys.now a.values.now))) (ap₂ sections o.known.ensures.0 o.known.ensures.1 ∙ no_sections o.args.work.now)

pub known-requires : goal.known-requires
known-requires c = (proper_none c.args.work.now).is_sound_lem

pub returns-then-too_many : goal.returns-then-too_many
returns-then-too_many c =
    let s = c.args.table.now in
    let g = c.args.g in
    let a = c.args.columns in
    let w = length c.args.work.now in
    let good = good-here (goal.at.returns-then-too_many c).In_ok-check_columns in
    let bytes : AreBytes s = search rules in
    let few = counts_few s g (good_table a.kind s g a.keys.now a.values.now w good) bytes in
    let both = by_sections a.kind s g a.keys.now a.values.now w good (refused 20) s
    (too_few s g (sections s g) (patch_sections a.kind a.keys.now a.values.now)
    (more_rows (sections s g) (patch_sections a.kind a.keys.now a.values.now) few (sym (overflowing (goal.at.returns-then-too_many c).After-any_overflow-too_many) ∙ c.if-too_many.true))) in
    record { answer = both.0; content = both.1 }

pub remove_in-requires : goal.remove_in-requires
remove_in-requires c =
    let s = c.args.table.now in
    let a = c.args.columns in
    let w = length c.args.work.now in
    let good = good-here (goal.at.remove_in-requires c).In_ok-check_columns in
    record {
      sound_table = good_table a.kind s c.args.g a.keys.now a.values.now w good;
      work_as_long = good_work a.kind s c.args.g a.keys.now a.values.now w good;
      fit = good_columns a.kind s c.args.g a.keys.now a.values.now w good;
      no_overflow = sym (overflowing (goal.at.remove_in-requires c).After-any_overflow-too_many) ∙ c.if-too_many.false;
    }

pub returns-in_err-check_columns : goal.returns-in_err-check_columns
returns-in_err-check_columns c =
    let a = c.args.columns in
    let p = err_from_is_err_and c.from_residual.result c.from_residual.ensures.1 in
    let both = bad_columns a.kind c.args.table.now c.args.g a.keys.now a.values.now (length c.args.work.now) (number_of c.in_err-check_columns.field-0.0)
    (sym c.check_columns.ensures ∙ ap outcome_of c.in_err-check_columns.was) in
    rw (p.1, p.2) (record { answer = both.0; content = both.1 })

pub returns-else-too_many : goal.returns-else-too_many
returns-else-too_many c =
    let a = c.args.columns in
    let r = c.remove_in in
    let both = by_sections a.kind c.args.table.now c.args.g a.keys.now a.values.now (length c.args.work.now) (good-here (goal.at.returns-else-too_many c).In_ok-check_columns) (outcome_of r.result) r.new.table r.ensures in
    record { answer = both.0; content = both.1 }
