-- `combined_by_level` is the definition, field by field.
use Prim.Native.Nat.{ℕ, ◌+◌, ◌≤◌, max, min}
use mathlib.Core.Path.{◌≡◌}
use native.Mathlib.Omega.{arith}
use Rattle.level.specs.declared.SplitTotal.{SplitTotal}
use Rattle.level.specs.Level.{below}
use Rattle.level.specs.Carry.{split_of}
use Rattle.record.specs.declared.Record.{Record}
use Rattle.soundness.specs.declared.sound.SoundRecord.{SoundRecord}
use Rattle.record.specs.Section.{meaning, record_of}
use Rattle.record.proofs.Parts.{sound_record_parts}
use Rattle.table.specs.Combine.{combine, both_at}
use Rattle.table.proofs.combined_by_level.Goals as goal

top_within : (a b : SoundRecord) → max a.raw.top b.raw.top ≤ 52
top_within a b =
    let p = sound_record_parts a.raw a.sound in
    let q = sound_record_parts b.raw b.sound in
    omega (arith, p.top, q.top)

-- the fields in the code's order; each equation is asked of its own call
joined :
    (a b : Record) {t z : ℕ} {high middle low : SplitTotal} →
    t ≡ max a.top b.top →
    z ≡ min a.finest b.finest →
    high ≡ split_of (below (both_at (meaning a) (meaning b)) t 0) →
    middle ≡ split_of (below (both_at (meaning a) (meaning b)) t 1) →
    low ≡ split_of (below (both_at (meaning a) (meaning b)) t 2) →
    record { key = a.key; count = a.count + b.count; top = t; finest = z; high = high; middle = middle; low = low } ≡ record_of (combine (meaning a) (meaning b))
unfolding combine
joined a b e z h m l = rw (h, m, l, e, z)

pub total_below-requires : goal.total_below-requires
total_below-requires c = omega (arith, top_within c.args.a c.args.b, c.max-t.ensures)

pub total_below-requires-2 : goal.total_below-requires-2
total_below-requires-2 c = omega (arith, top_within c.args.a c.args.b, c.max-t.ensures)

pub total_below-requires-3 : goal.total_below-requires-3
total_below-requires-3 c = omega (arith, top_within c.args.a c.args.b, c.max-t.ensures)

pub returns : goal.returns
returns c =
    joined c.args.a.raw c.args.b.raw c.max-t.ensures c.min.ensures c.total_below.ensures c.total_below-2.ensures c.total_below-3.ensures
