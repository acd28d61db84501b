-- the bytes read lie in the buffer, whose length no read changes; the measure is the room that is left
use Rattle.std.proofs.Common.{length, ◌-◌, ◌≤◌}
use Rattle.girths.proofs.read_all.Given as goal

abbrev pub invariant-loop-done : goal.invariant-loop-done
invariant-loop-done l = l.done ≤ length l.initial.buffer

abbrev pub decreases-loop-done : goal.decreases-loop-done
decreases-loop-done l = length l.initial.buffer - l.done
