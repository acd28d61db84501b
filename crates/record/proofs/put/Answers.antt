-- `put` writes field after field; the seven parts stand one behind the other, so they are the record's encoding.
use Prim.Native.Nat.{◌*◌}
use Rattle.record.proofs.Laws.{record_stored, decode-encode, FieldsInRange}
use borrow.Author.Rules.{rules}
use Rattle.record.proofs.put.Goals as goal
use Rattle.record.proofs.put.Goals.{Start}

in-range : (c : Start) → FieldsInRange c.args.r
in-range c = search rules

pub returns : goal.returns
returns c =
    let a = c.args in (
      record_stored a.t.now (a.i * 64) a.r c.write.ensures c.write-2.ensures c.write-3.ensures c.write-4.ensures
          c.put_total.ensures c.put_total-2.ensures c.put_total-3.ensures,
      decode-encode a.r (in-range (goal.at.returns c).Start),
    )
