-- `absorb_row` brings in the section of the row that stands at i.
use Prim.Native.Nat.{ℕ}
use mathlib.Core.Path.{◌≡◌, ap, ap₂, ◌∙◌, subst}
use Rattle.columns.specs.Columns.{Row, row_at}
use Rattle.record.specs.Section.{Section, meaning, record_of, sections}
use Rattle.table.specs.Combine.{of_row, absorb}
use Rattle.table.specs.Calls.{overflows}
use Rattle.lists.specs.Lists.{any_of}
use Rattle.table.proofs.Bytes.{meaning_record}
use Rattle.absorb.specs.Steps.{Absorbs}
use Rattle.columns.proofs.Cells.{value-within}
use Rattle.absorb.proofs.absorb_row.Goals as goal
use Rattle.absorb.proofs.absorb_row.Goals.{After-row_record-r}

-- where the row's record was made
module _ (c : After-row_record-r) where
  abbrev row : Row
  row = let a = c.args.columns in row_at a.kind a.keys.now a.values.now c.args.i

  row-means : meaning c.row_record-r.result.raw ≡ of_row row
  row-means =
      ap meaning (c.row_record-r.ensures ∙ ap₂ (λ (x y : ℕ). record_of (of_row (record { key = x; bits = y }))) c.key.ensures c.bits.ensures)
      ∙ meaning_record (of_row row)

pub bits-requires : goal.bits-requires
bits-requires c =
    let a = c.args.columns in
    value-within a.kind a.keys.now a.values.now c.requires.within_columns.0 c.args.i c.requires.within_columns.1

pub absorb_record-requires-clause-no_overflow : goal.absorb_record-requires-clause-no_overflow
absorb_record-requires-clause-no_overflow c =
    ap (λ (x : Section). any_of overflows (absorb x (sections c.args.t.now c.args.so_far.groups))) (row-means (goal.at.absorb_record-requires-clause-no_overflow c).After-row_record-r) ∙ c.requires.no_overflow

pub returns : goal.returns
returns c =
    let a = c.absorb_record in
    subst (λ (x : Section). Absorbs x c.args.room (sections c.args.t.now c.args.so_far.groups) a.new.t a.result) (row-means (goal.at.returns c).After-row_record-r) a.ensures
