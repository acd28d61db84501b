use native.Mathlib.Omega.{arith}
use borrow.Author.Tests.{le-leb, lt-leb}
use lib.ListN.{length}
use Rattle.record.specs.Layout.{capacity}
use Rattle.record.specs.Sound.{sound}
use Rattle.soundness.proofs.is_sound.Goals as goal

pub returns-then-capacity-g : goal.returns-then-capacity-g
unfolding sound
returns-then-capacity-g c =
    let a = c.args in
    rw (lt-leb a.g (capacity (length a.t.now)) (omega (arith, c.capacity.ensures)))

pub records_sound-requires : goal.records_sound-requires
records_sound-requires c = omega (arith, c.capacity.ensures)

pub returns : goal.returns
unfolding sound
returns c =
    let a = c.args in
    rw (le-leb a.g (capacity (length a.t.now)) (omega (arith, c.capacity.ensures))) c.records_sound.ensures
