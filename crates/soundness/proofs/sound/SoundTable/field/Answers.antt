use native.Mathlib.Omega.{arith}
use Rattle.record.proofs.Sound.{sound_parts}
use Rattle.soundness.proofs.sound.SoundTable.field.Goals as goal

pub overflow_mul-i : goal.overflow_mul-i
overflow_mul-i c = let t = c.args.self in omega (arith, (sound_parts t.bytes.now t.groups t.sound).0)

pub read-requires : goal.read-requires
read-requires c = let t = c.args.self in omega (arith, (sound_parts t.bytes.now t.groups t.sound).0)

pub overflow_add-i : goal.overflow_add-i
overflow_add-i c = let t = c.args.self in omega (arith, (sound_parts t.bytes.now t.groups t.sound).0)
