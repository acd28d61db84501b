use mathlib.Core.Path.{sym, subst}
use lib.Dec.{T}
use native.Mathlib.Omega.{arith}
use Rattle.record.specs.declared.Record.{Record}
use Rattle.record.specs.Sound.{sound_record}
use Rattle.record.proofs.Sound.{sound_parts}
use Rattle.record.proofs.Found.{sound_record_at}
use Rattle.soundness.proofs.sound.SoundTable.record.Goals as goal

pub get-raw-requires : goal.get-raw-requires
get-raw-requires c = let t = c.args.self in omega (arith, (sound_parts t.bytes.now t.groups t.sound).0)

pub invariant_of-result : goal.invariant_of-result
invariant_of-result c =
    let t = c.args.self in
    record { sound = subst (λ (r : Record). T (sound_record r)) (sym c.get-raw.ensures) (sound_record_at t.bytes.now t.groups c.args.i t.sound (omega arith)) }
