use Rattle.record.proofs.Sound.{sound_parts}
use Rattle.soundness.proofs.Tables.{place_within}
use Rattle.soundness.proofs.sound.SoundTable.binary_search.Goals as goal

pub binary_search-requires : goal.binary_search-requires
binary_search-requires c = let t = c.args.self in let p = sound_parts t.bytes.now t.groups t.sound in (p.0, p.2)

pub returns-clause-within : goal.returns-clause-within
returns-clause-within c = let t = c.args.self in place_within t.bytes.now t.groups c.args.key t.sound c.binary_search.result c.binary_search.ensures
