use Prim.Native.Nat.{ℕ, ◌+◌, ◌-◌, ◌/◌, ◌^◌, ◌<◌}
use mathlib.Core.Path.{◌≡◌, refl}
use mathlib.Core.Bool.{Bool, true, false, cond}
use native.Mathlib.Omega.{arith}
use borrow.Author.Rules.{rules}
use borrow.Author.Tests.{ltb-true, ltb-false}
use lib.Dec.{ltb}
use Rattle.record.proofs.is_below.Goals as goal

carry-bit : (x y : ℕ) → x < 2 ^ 32 → y < 2 ^ 32 → (y + 8589934591 - x) / 2 ^ 32 - 1 ≡ cond (ltb x y) 1 0
carry-bit x y hx hy = by (ltb x y) refl
  where
    by : (b : Bool) → ltb x y ≡ b → (y + 8589934591 - x) / 2 ^ 32 - 1 ≡ cond b 1 0
    by true e = omega (arith, ltb-true x y e)
    by false e = omega (arith, ltb-false x y e)

pub returns : goal.returns
returns c = carry-bit c.args.x c.args.y (search rules) (search rules)
