use Prim.Native.Nat.{ℕ, ◌+◌, ◌*◌, ◌/◌, ◌%◌, ◌<◌}
use mathlib.Core.Path.{◌≡◌, sym}
use Rattle.std.proofs.lemmas.Cmp.{ranked}
use native.Mathlib.Omega.{arith}
use borrow.Author.Tests.{le-leb, lt-leb, leb-true}
use Rattle.lists.proofs.Booleans.{same_test}
use Rattle.level.specs.Level.{level_bound}
use Rattle.level.specs.Carry.{carry_base}
use Rattle.soundness.proofs.at_most.Goals as goal

pub returns-in-Less : goal.returns-in-Less
returns-in-Less c =
    let less : c.args.k < c.args.count / 2048 = grind (arith, ranked) in
    sym (le-leb (c.args.k * carry_base + c.args.s) (c.args.count * level_bound) (omega arith))

pub returns-in-Equal : goal.returns-in-Equal
returns-in-Equal c =
    let a = c.args in
    let same : a.k ≡ a.count / 2048 = grind (arith, ranked) in
    let most : ℕ = a.count % 2048 * level_bound in
    same_test _ _ (λ e. le-leb (a.k * carry_base + a.s) (a.count * level_bound) (omega (arith, leb-true a.s most e)))
    (λ e. le-leb a.s most (omega (arith, leb-true (a.k * carry_base + a.s) (a.count * level_bound) e)))

pub returns-in-Greater : goal.returns-in-Greater
returns-in-Greater c =
    let more : c.args.count / 2048 < c.args.k = grind (arith, ranked) in
    sym (lt-leb (c.args.k * carry_base + c.args.s) (c.args.count * level_bound) (omega arith))
