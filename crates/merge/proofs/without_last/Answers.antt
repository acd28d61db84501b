use Rattle.merge.proofs.State.{prior}
use Rattle.merge.proofs.without_last.Goals as goal

pub invariant_of-result-clause-sound : goal.invariant_of-result-clause-sound
invariant_of-result-clause-sound c = let t = c.args.t in (prior t.bytes.now t.groups t.sound c.requires.some_left).front
