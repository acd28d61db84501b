-- `section_overflows`: no section before j, so the sections from j on decide.
use Prim.Native.Nat.{ℕ, ◌*◌, ◌<◌}
use mathlib.Core.Path.{◌≡◌, refl, sym, ap, ap₂, ◌∙◌}
use mathlib.Core.Bool.{Bool}
use mathlib.Core.List.{List}
use native.Mathlib.Omega.{arith}
use lib.ListN.{length, get_or}
use Rattle.record.specs.Layout.{record_at}
use Rattle.record.specs.Section.{Section, meaning, sections}
use Rattle.record.proofs.Laws.{get_d_sections}
use Rattle.record.proofs.Sound.{sound_parts}
use Rattle.table.proofs.State.{length-sections}
use Rattle.overflow.specs.Counts.{count_overflows}
use Rattle.lists.proofs.Scanning.{Undecided, scan_found, scan_next, scan_end}
use Rattle.overflow.proofs.section_overflows.Goals as goal
use Rattle.overflow.proofs.section_overflows.Goals.{After-count_overflows, Start}

abbrev test : List ℕ → Section → Bool
test ks s = count_overflows ks s.key s.count

-- the section at j, once it was tested
module _ (c : After-count_overflows) where
  abbrev ks : List ℕ
  ks = c.args.keys.now

  abbrev t : List ℕ
  t = c.args.t.bytes.now

  abbrev ts : List Section
  ts = sections t c.args.t.groups

  abbrev j : ℕ
  j = c.loop-j.j

  abbrev here : Section
  here = meaning (record_at t (j * 64))

  in_list : j < length ts
  in_list = rw (length-sections t c.args.t.groups) (omega arith)

  tested : test ks (get_or ts j here) ≡ c.count_overflows.result
  tested =
      ap (test ks) (get_d_sections t c.args.t.groups (sound_parts t c.args.t.groups c.args.t.sound).0 j (record_at t (j * 64)) (omega arith))
      ∙ sym (c.count_overflows.ensures ∙ ap₂ (count_overflows ks) c.key.ensures c.count.ensures)

  undecided : Undecided (test ks) ts j
  undecided = c.loop-j.invariant

pub loop-j-init : goal.loop-j-init
loop-j-init c = refl

pub returns-then-count_overflows : goal.returns-then-count_overflows
returns-then-count_overflows c = scan_found _ _ _ (undecided (goal.at.returns-then-count_overflows c).After-count_overflows) (here (goal.at.returns-then-count_overflows c).After-count_overflows) (in_list (goal.at.returns-then-count_overflows c).After-count_overflows) (tested (goal.at.returns-then-count_overflows c).After-count_overflows) c.if-count_overflows.true

pub loop-j-preserved : goal.loop-j-preserved
loop-j-preserved c = scan_next _ _ _ (undecided (goal.at.loop-j-preserved c).After-count_overflows) (here (goal.at.loop-j-preserved c).After-count_overflows) (in_list (goal.at.loop-j-preserved c).After-count_overflows) (tested (goal.at.loop-j-preserved c).After-count_overflows) c.if-count_overflows.false

pub returns : goal.returns
returns c =
    let l = c.loop-j in
    scan_end (test c.args.keys.now) (sections c.args.t.bytes.now c.args.t.groups) l.j l.invariant (omega (arith, length-sections c.args.t.bytes.now c.args.t.groups))
