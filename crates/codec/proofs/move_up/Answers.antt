use Prim.Native.Nat.{◌+◌, ◌-◌}
use mathlib.Core.Path.{◌∙◌}
use native.Mathlib.Omega.{arith}
use lib.ListN.{drop, length-drop}
use Rattle.codec.proofs.Fields.{paste-sets}
use Rattle.codec.proofs.move_up.Goals as goal

pub returns : goal.returns
returns c =
    let a = c.args in
    let s = a.s.now in
    c.copy_within.ensures.after ∙ paste-sets s (drop a.a s) (a.a + a.d) (a.e - a.a) (omega arith) (omega (arith, length-drop a.a s))
