use mir.Syntax.{w64}
use mir.Val.{of_z, SFits}
use mir.ValLaws.{to_z-of_z}
use Rattle.codec.specs.Bytes.{bytes}
use Rattle.codec.proofs.Laws.{length-bytes, sets_then}
use borrow.Author.Rules.{rules}
use Rattle.record.proofs.put_total.Goals as goal
use Rattle.record.proofs.put_total.Goals.{Start}

in-range : (c : Start) → SFits w64 c.args.x.carry
in-range c = search rules

pub returns : goal.returns
returns c =
    let a = c.args in
    sets_then a.t.now a.at 8 (bytes 8 a.x.residue) (bytes 8 (of_z w64 a.x.carry))
    c.write.ensures (length-bytes 8 a.x.residue) (rw (to_z-of_z w64 a.x.carry (in-range (goal.at.returns c).Start)) at c.write-2.ensures)
