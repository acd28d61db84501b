-- `combined_same_top`: at one top the three levels are added in their places.
use Prim.Native.Nat.{◌+◌, ◌^◌, ◌<◌, max}
use mathlib.Core.Path.{◌≡◌, sym, ap, ◌∙◌}
use native.Mathlib.Omega.{arith}
use borrow.Author.Rules.{rules}
use Rattle.level.specs.Carry.{split_of, InRange}
use Rattle.soundness.specs.declared.sound.SoundRecord.{SoundRecord}
use Rattle.record.proofs.Parts.{sound_record_parts, total_range}
use Rattle.table.specs.Combine.{combine}
use Rattle.table.proofs.Totals.{same-top-high, same-top-middle, same-top-low}
use Rattle.table.proofs.combined_same_top.Goals as goal

-- its levels can be added to others
in_range : (r : SoundRecord) → r.raw.count < 2 ^ 32 → InRange r.raw.high × InRange r.raw.middle × InRange r.raw.low
in_range r f =
    let p = sound_record_parts r.raw r.sound in
    (total_range r.raw.count r.raw.high p.high f, total_range r.raw.count r.raw.middle p.middle f, total_range r.raw.count r.raw.low p.low f)

pub add_totals-requires : goal.add_totals-requires
add_totals-requires c = omega (arith, in_range c.args.a (search rules), in_range c.args.b (search rules))

pub add_totals-requires-2 : goal.add_totals-requires-2
add_totals-requires-2 c = omega (arith, in_range c.args.a (search rules), in_range c.args.b (search rules))

pub add_totals-requires-3 : goal.add_totals-requires-3
add_totals-requires-3 c = omega (arith, in_range c.args.a (search rules), in_range c.args.b (search rules))

pub returns : goal.returns
unfolding combine
returns c =
    let a = c.args.a.raw in
    let b = c.args.b.raw in
    let p = sound_record_parts a c.args.a.sound in
    let q = sound_record_parts b c.args.b.sound in
    let e = c.requires.0 in
    let t : a.top ≡ max a.top b.top = omega arith in
    let h = c.add_totals.ensures ∙ ap split_of (sym (same-top-high a b e p q)) in
    let m = c.add_totals-2.ensures ∙ ap split_of (sym (same-top-middle a b e p q)) in
    let l = c.add_totals-3.ensures ∙ ap split_of (sym (same-top-low a b e p q)) in
    λ i. record { key = a.key; count = a.count + b.count; top = t i; finest = c.min.ensures i; high = h i; middle = m i; low = l i }
