use Rattle.record.proofs.Sound.{sound_parts}
use Rattle.soundness.proofs.Tables.{place_within}
use Rattle.absorb.proofs.locate_in.Goals as goal

pub locate-requires : goal.locate-requires
locate-requires c = let t = c.args.t in let p = sound_parts t.bytes.now t.groups t.sound in (p.0, p.2)

pub returns-clause-within : goal.returns-clause-within
returns-clause-within c = let t = c.args.t in place_within t.bytes.now t.groups c.args.key t.sound c.locate.result c.locate.ensures
