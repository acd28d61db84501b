-- `record_without`: the count and the three levels are subtracted, the other fields stay.
use Prim.Native.Nat.{◌-◌}
use mathlib.Core.Path.{◌≡◌}
use Rattle.level.specs.declared.SplitTotal.{SplitTotal}
use Rattle.level.specs.Level.{below}
use Rattle.level.specs.Carry.{split_of}
use Rattle.record.specs.declared.Record.{Record}
use Rattle.record.specs.Section.{meaning, record_of}
use Rattle.remove.specs.Remaining.{without_at, without}
use Rattle.remove.proofs.record_without.Goals as goal

joined :
    (r p : Record) {high middle low : SplitTotal} →
    high ≡ split_of (below (without_at (meaning r) (meaning p)) r.top 0) →
    middle ≡ split_of (below (without_at (meaning r) (meaning p)) r.top 1) →
    low ≡ split_of (below (without_at (meaning r) (meaning p)) r.top 2) →
    record { key = r.key; count = r.count - p.count; top = r.top; finest = r.finest; high = high; middle = middle; low = low } ≡ record_of (without (meaning r) (meaning p))
unfolding without
joined r p h m l = rw (h, m, l)

pub returns : goal.returns
returns c =
    joined c.args.r.raw c.args.p.raw c.total_without.ensures c.total_without-2.ensures c.total_without-3.ensures
