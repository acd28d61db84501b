-- `any_exceeds`: no section before i exceeds once it is reduced, so those from i on decide.
use Prim.Native.Nat.{ℕ, ◌*◌, ◌<◌}
use mathlib.Core.Path.{◌≡◌, refl, sym, ap, ◌∙◌}
use mathlib.Core.Bool.{Bool}
use mathlib.Core.List.{List}
use native.Mathlib.Omega.{arith}
use lib.Dec.{T}
use lib.ListN.{length, get_or}
use Rattle.lists.specs.Lists.{any_of}
use Rattle.lists.proofs.Any.{any_map}
use Rattle.lists.proofs.Scanning.{scan_found, scan_next, scan_end}
use Rattle.record.specs.declared.Record.{Record}
use Rattle.record.specs.Layout.{record_at}
use Rattle.record.specs.Sound.{sound}
use Rattle.record.specs.Section.{Section, meaning, record_of, sections}
use Rattle.record.proofs.Laws.{get_d_sections}
use Rattle.record.proofs.Sound.{sound_parts}
use Rattle.table.proofs.Bytes.{meaning_record}
use Rattle.table.proofs.State.{length-sections}
use Rattle.remove.specs.Remaining.{all_without, exceeds_for, exceeds, total_exceeds}
use Rattle.remove.proofs.Reducing.{left_by, rows_enough}
use Rattle.remove.proofs.any_exceeds.Goals as goal

by-own-rows : (t : Section) → exceeds t ≡ exceeds_for t.count t
unfolding exceeds
by-own-rows t = refl

-- what the patch ps leaves of the section t exceeds
abbrev test : List Section → Section → Bool
test ps t = exceeds (left_by ps t)

total-tested : (ts ps : List Section) → total_exceeds ts ps ≡ any_of (test ps) ts
unfolding all_without
total-tested ts ps = any_map exceeds (left_by ps) ts

-- the section i, once it was read, reduced and tested
module _ (t : List ℕ) (g : ℕ) (ps : List Section) (i : ℕ) (sd : T (sound t g)) (h : i < g) where
  abbrev here : Record
  here = record_at t (i * 64)

  in_list : i < length (sections t g)
  in_list = rw (length-sections t g) h

  tested : {held x : Record} {b : Bool} → held ≡ here → x ≡ record_of (left_by ps (meaning held)) → b ≡ exceeds_for x.count (meaning x)
      → test ps (get_or (sections t g) i (meaning here)) ≡ b
  tested {held} {x} {b} read reduced said =
      ap (test ps) (get_d_sections t g (sound_parts t g sd).0 i here h)
      ∙ sym (said ∙ sym (by-own-rows (meaning x)) ∙ ap (λ (r : Record). exceeds (meaning r)) reduced
      ∙ ap exceeds (meaning_record (left_by ps (meaning held)))
      ∙ ap (λ (r : Record). test ps (meaning r)) read)

pub reduce-x-requires : goal.reduce-x-requires
reduce-x-requires c =
    let t = c.args.t in
    let p = c.args.patch in
    rw c.record-held.ensures (rows_enough t.bytes.now t.groups t.sound (sections p.bytes.now p.groups) c.requires c.loop-i.i (omega arith))

pub loop-i-preserved : goal.loop-i-preserved
loop-i-preserved c =
    let t = c.args.t in
    let s = t.bytes.now in
    let ps = sections c.args.patch.bytes.now c.args.patch.groups in
    let i = c.loop-i.i in
    let h : i < t.groups = omega arith in
    scan_next _ _ _ c.loop-i.invariant (meaning (record_at s (i * 64))) (in_list s t.groups ps i t.sound h)
    (tested s t.groups ps i t.sound h c.record-held.ensures c.reduce-x.ensures c.exceeds_for.ensures) c.if-exceeds_for.false

pub returns-then-exceeds_for : goal.returns-then-exceeds_for
returns-then-exceeds_for c =
    let t = c.args.t in
    let s = t.bytes.now in
    let ps = sections c.args.patch.bytes.now c.args.patch.groups in
    let i = c.loop-i.i in
    let h : i < t.groups = omega arith in
    scan_found _ _ _ c.loop-i.invariant (meaning (record_at s (i * 64))) (in_list s t.groups ps i t.sound h)
    (tested s t.groups ps i t.sound h c.record-held.ensures c.reduce-x.ensures c.exceeds_for.ensures) c.if-exceeds_for.true
    ∙ sym (total-tested (sections s t.groups) ps)

pub returns : goal.returns
returns c =
    let t = c.args.t in
    let ts = sections t.bytes.now t.groups in
    let ps = sections c.args.patch.bytes.now c.args.patch.groups in
    scan_end (test ps) ts c.loop-i.i c.loop-i.invariant (omega (arith, length-sections t.bytes.now t.groups)) ∙ sym (total-tested ts ps)
