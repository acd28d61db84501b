-- `put_trailer`: four fields, one after the other.
use Rattle.trailer.proofs.Laws.{trailer_set}
use Rattle.trailer.proofs.put_trailer.Goals as goal

pub returns : goal.returns
returns c =
    let s = c.args in
    trailer_set s.out.now s.at s.a s.b s.c s.mark c.write.ensures c.write-2.ensures c.write-3.ensures c.write-4.ensures
