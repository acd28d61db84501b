-- `total_below` adds what the two records hold at the level.
use Prim.Native.Nat.{◌-◌}
use mathlib.Core.Path.{◌≡◌, ap, ap₂, ◌∙◌}
use native.Mathlib.Omega.{arith}
use borrow.Author.Rules.{rules}
use borrow.Author.Tests.{le-leb, lt-leb}
use lib.IntN.{◌+ℤ◌}
use Rattle.level.specs.Carry.{split_of, total_of}
use Rattle.table.specs.Steps.{split_in}
use Rattle.table.proofs.Totals.{split_level, split_in_in_range}
use Rattle.table.proofs.total_below.Goals as goal

pub returns-then-t-d : goal.returns-then-t-d
returns-then-t-d c = let a = c.args in rw (lt-leb a.d a.t c.if-t-d.true) c.nothing.ensures

pub returns : goal.returns
returns c =
    let j = c.args.t - c.args.d in
    let x : c.split_in.result ≡ split_in c.args.a.raw j = c.split_in.ensures in
    let y : c.split_in-2.result ≡ split_in c.args.b.raw j = c.split_in-2.ensures in
    rw (le-leb c.args.d c.args.t (omega arith))
    (c.add_totals.ensures ∙ ap split_of (ap₂ ◌+ℤ◌ (ap total_of x ∙ split_level c.args.a.raw j) (ap total_of y ∙ split_level c.args.b.raw j)))

pub add_totals-requires : goal.add_totals-requires
add_totals-requires c =
    let j = c.args.t - c.args.d in
    let x = split_in_in_range c.args.a.raw j (search rules) c.args.a.sound in
    let y = split_in_in_range c.args.b.raw j (search rules) c.args.b.sound in
    rw (c.split_in.ensures, c.split_in-2.ensures) (omega arith, omega arith, omega arith, omega arith)
