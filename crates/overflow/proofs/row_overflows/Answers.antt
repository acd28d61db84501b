-- `row_overflows`: no row before i, so the rows from i on decide.
use Prim.Native.Nat.{ℕ, ◌/◌, ◌<◌}
use mathlib.Core.Path.{◌≡◌, refl, sym, ap, ◌∙◌}
use mathlib.Core.Bool.{Bool}
use mathlib.Core.List.{List}
use native.Mathlib.Omega.{arith}
use lib.ListN.{length, get_or}
use Rattle.codec.specs.Bytes.{number}
use Rattle.codec.proofs.Cells.{length-cells}
use Rattle.record.specs.Section.{Section, sections}
use Rattle.overflow.specs.Counts.{count_in, count_overflows}
use Rattle.columns.specs.Columns.{column_keys}
use Rattle.lists.proofs.Scanning.{Undecided, scan_found, scan_next, scan_end}
use Rattle.columns.proofs.Cells.{cell_at}
use Rattle.overflow.proofs.row_overflows.Goals as goal
use Rattle.overflow.proofs.row_overflows.Goals.{After-count_overflows, Start}

abbrev test : List Section → List ℕ → ℕ → Bool
test ts ks k = count_overflows ks k (count_in k ts)

-- the number at i, once it was tested
module _ (c : After-count_overflows) where
  abbrev ks : List ℕ
  ks = c.args.keys.now

  abbrev ts : List Section
  ts = sections c.args.t.bytes.now c.args.t.groups

  abbrev i : ℕ
  i = c.loop-i.i

  in-columns : i < length ks / 4
  in-columns = omega arith

  in_list : i < length (column_keys ks)
  in_list = rw (length-cells 4 number (length ks / 4) ks) in-columns

  tested : test ts ks (get_or (column_keys ks) i 0) ≡ c.count_overflows.result
  tested =
      ap (test ts ks) (cell_at (λ (x : ℕ). x) 4 (length ks / 4) i ks in-columns ∙ sym c.read-k.ensures)
      ∙ sym (c.count_overflows.ensures ∙ ap (count_overflows ks _) c.held_count.ensures)

  undecided : Undecided (test ts ks) (column_keys ks) i
  undecided = c.loop-i.invariant

pub loop-i-init : goal.loop-i-init
loop-i-init c = refl

pub returns-then-count_overflows : goal.returns-then-count_overflows
returns-then-count_overflows c = scan_found _ _ _ (undecided (goal.at.returns-then-count_overflows c).After-count_overflows) 0 (in_list (goal.at.returns-then-count_overflows c).After-count_overflows) (tested (goal.at.returns-then-count_overflows c).After-count_overflows) c.if-count_overflows.true

pub loop-i-preserved : goal.loop-i-preserved
loop-i-preserved c = scan_next _ _ _ (undecided (goal.at.loop-i-preserved c).After-count_overflows) 0 (in_list (goal.at.loop-i-preserved c).After-count_overflows) (tested (goal.at.loop-i-preserved c).After-count_overflows) c.if-count_overflows.false

pub returns : goal.returns
returns c =
    let l = c.loop-i in
    scan_end (test (sections c.args.t.bytes.now c.args.t.groups) c.args.keys.now) (column_keys c.args.keys.now) l.i l.invariant (omega (arith, length-cells 4 number (length c.args.keys.now / 4) c.args.keys.now))
