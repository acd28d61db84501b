-- `insert` moves the later records up and puts the new one in the gap.
use Rattle.record.proofs.Laws.{inserted}
use Rattle.record.proofs.insert.Goals as goal

pub returns : goal.returns
returns c =
    let a = c.args in
    inserted a.t.now a.g a.i a.r c.requires.0 c.requires.1 c.move_up.ensures c.put.ensures.0 c.put.ensures.1
