-- `row_record` holds the row's contributions.
use mathlib.Core.Path.{◌≡◌, sym, ap, subst, ◌∙◌}
use lib.Dec.{T}
use borrow.Author.Rules.{rules}
use mir.Syntax.{w64}
use mir.Val.{SFits}
use mir.ValLaws.{to_z-of_z}
use Rattle.level.specs.declared.Contributions.{Contributions}
use Rattle.level.specs.Carry.{split_of}
use Rattle.columns.specs.Columns.{Row}
use Rattle.record.specs.declared.Record.{Record}
use Rattle.record.specs.Sound.{sound_record}
use Rattle.record.specs.Section.{record_of}
use Rattle.table.specs.Combine.{of_row}
use Rattle.table.proofs.Bytes.{sound_record_lem}
use Rattle.table.proofs.Proper.{row_proper}
use Rattle.table.proofs.row_record.Goals as goal
use Rattle.table.proofs.row_record.Goals.{After-split-3}

-- the record that was made
abbrev made : After-split-3 → Record
made c = record { key = c.args.key; count = 1; top = c.contributions_of-c.result.top; finest = c.finest_power.result; high = c.split.result; middle = c.split-2.result; low = c.split-3.result }

is_row : (c : After-split-3) → made c ≡ record_of (of_row (record { key = c.args.key; bits = c.args.bits }))
unfolding of_row
is_row c =
    let r = c.contributions_of-c.result in
    let e = c.contributions_of-c.ensures in
    let f : SFits w64 r.high × SFits w64 r.middle × SFits w64 r.low = search rules in
    let high = c.split.ensures ∙ ap split_of (to_z-of_z w64 r.high f.0 ∙ ap (λ (x : Contributions). x.high) e) in
    let middle = c.split-2.ensures ∙ ap split_of (to_z-of_z w64 r.middle f.1 ∙ ap (λ (x : Contributions). x.middle) e) in
    let low = c.split-3.ensures ∙ ap split_of (to_z-of_z w64 r.low f.2 ∙ ap (λ (x : Contributions). x.low) e) in
    λ i. record { key = c.args.key; count = 1; top = (e i).top; finest = c.finest_power.ensures i; high = high i; middle = middle i; low = low i }

pub returns : goal.returns
returns c = is_row (goal.at.returns c).After-split-3

pub invariant_of-result : goal.invariant_of-result
invariant_of-result c =
    let row : Row = record { key = c.args.key; bits = c.args.bits } in
    record { sound = subst T (sym (ap sound_record (is_row c) ∙ sound_record_lem (of_row row) (row_proper row c.ranges.key.fits))) tt }
