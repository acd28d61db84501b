-- `record_sound` asks each condition of soundness by itself, in the definition's order.
use mathlib.Core.Path.{refl}
use Rattle.record.specs.Sound.{sound_record}
use Rattle.soundness.proofs.record_sound.Goals as goal

pub returns : goal.returns
unfolding sound_record
returns c = rw (c.total_sound.ensures, c.total_sound-2.ensures, c.total_sound-3.ensures, c.is_zero.ensures, c.is_zero-2.ensures) refl
