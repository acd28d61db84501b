-- `split_in` goes through the three levels, as the definition does.
use Prim.Native.Nat.{◌+◌}
use mathlib.Core.Path.{refl}
use native.Mathlib.Omega.{arith}
use borrow.Author.Tests.{eq-eqb, ne_eqb}
use Rattle.table.proofs.split_in.Goals as goal

pub returns-then-j-r : goal.returns-then-j-r
returns-then-j-r c = let a = c.args in rw (eq-eqb a.j a.r.top (omega arith))

pub returns-then-j-r-2 : goal.returns-then-j-r-2
returns-then-j-r-2 c =
    let a = c.args in
    rw (ne_eqb a.j a.r.top c.if-j-r.false, eq-eqb (a.j + 1) a.r.top c.if-j-r-2.true)

pub returns-then-j-r-3 : goal.returns-then-j-r-3
returns-then-j-r-3 c =
    let a = c.args in
    rw (ne_eqb a.j a.r.top c.if-j-r.false, ne_eqb (a.j + 1) a.r.top c.if-j-r-2.false, eq-eqb (a.j + 2) a.r.top (omega arith)) refl

pub returns : goal.returns
returns c =
    let a = c.args in
    rw (ne_eqb a.j a.r.top c.if-j-r.false, ne_eqb (a.j + 1) a.r.top c.if-j-r-2.false, ne_eqb (a.j + 2) a.r.top c.if-j-r-3.false) c.nothing.ensures
