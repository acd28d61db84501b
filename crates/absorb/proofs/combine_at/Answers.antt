-- `combine_at` writes the two records combined, whichever way they go.
use Prim.Native.Nat.{ℕ, ◌+◌, ◌*◌, ◌≤◌}
use mathlib.Core.Path.{◌≡◌, sym, ap, ◌∙◌, subst}
use mathlib.Core.List.{List}
use Rattle.record.specs.declared.Record.{Record}
use Rattle.record.specs.Layout.{record_at}
use Rattle.record.specs.Section.{meaning, record_of}
use Rattle.table.specs.Combine.{combine}
use Rattle.table.specs.Calls.{most_rows}
use Rattle.absorb.specs.Steps.{PutAt}
use Rattle.absorb.proofs.combine_at.Goals as goal
use Rattle.absorb.proofs.combine_at.Goals.{After-get-raw, Start}

-- where the record at i was read
module _ (c : After-get-raw) where
  abbrev old : Record
  old = c.get-raw.result

  few-together : old.count + c.args.r.raw.count ≤ most_rows
  few-together = subst (λ (x : Record). x.count + c.args.r.raw.count ≤ most_rows) (sym c.get-raw.ensures) c.requires.few_together

  -- the record that was made of it, written
  stored_here : (x : Record) (s : List ℕ) → x ≡ record_of (combine (meaning old) (meaning c.args.r.raw)) → PutAt c.args.t.now (c.args.i * 64) x s
      → PutAt c.args.t.now (c.args.i * 64) (record_of (combine (meaning (record_at c.args.t.now (c.args.i * 64))) (meaning c.args.r.raw))) s
  stored_here x s e =
      subst (λ (y : Record). PutAt c.args.t.now (c.args.i * 64) y s)
      (e ∙ ap (λ (y : Record). record_of (combine (meaning y) (meaning c.args.r.raw))) c.get-raw.ensures)

pub combined_same_top-requires : goal.combined_same_top-requires
combined_same_top-requires c = (c.if-raw-r.true, few-together (goal.at.combined_same_top-requires c).After-get-raw)

pub combined_by_level-requires : goal.combined_by_level-requires
combined_by_level-requires c = few-together (goal.at.combined_by_level-requires c).After-get-raw

pub returns-then-raw-r : goal.returns-then-raw-r
returns-then-raw-r c =
    let m = c.combined_same_top in
    stored_here (goal.at.returns-then-raw-r c).After-get-raw m.result c.put.new.t m.ensures c.put.ensures

pub returns-else-raw-r : goal.returns-else-raw-r
returns-else-raw-r c =
    let m = c.combined_by_level in
    stored_here (goal.at.returns-else-raw-r c).After-get-raw m.result c.put-else-raw-r.new.t m.ensures c.put-else-raw-r.ensures
