-- `write_union` writes the sections from the last one on.
use borrow.Author.Rules.{rules}
use Rattle.merge.proofs.Walk.{left_sound_first, left_sound_second}
use Rattle.merge.proofs.Writing.{left_less}
use Rattle.merge.proofs.write_union.Goals as goal

pub loop-b-preserved : goal.loop-b-preserved
loop-b-preserved c =
    let b = c.previous-left.ensures in
    left_less c.loop-b.invariant b.last_taken c.taken_record-r.ensures c.put.ensures.0 (left_sound_first b) (left_sound_second b) (search rules)
