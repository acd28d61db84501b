use Prim.Native.Nat.{◌+◌, ◌-◌}
use mathlib.Core.Path.{◌≡◌}
use lib.Seq.{sets}
use Rattle.codec.specs.Bytes.{bytes}
use Rattle.codec.proofs.write.Given as goal

-- what is left to store, stored, gives what the function is to leave
abbrev pub invariant-loop-k : goal.invariant-loop-k
invariant-loop-k l = sets l.s (l.at + l.k) (bytes (l.w - l.k) l.y) ≡ sets l.initial.s l.at (bytes l.w l.x)
