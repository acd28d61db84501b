-- `top_level` is the top: by the constant table for the fields 1 to 2,046, 52 for the field 2,047, and by the fraction for a subnormal.
use Prim.Native.Nat.{ℕ, ◌<◌, ◌≤◌}
use mathlib.Core.Path.{◌≡◌, sym, ◌∙◌}
use native.Mathlib.Decide.{dec_le}
use borrow.Author.Tests.{le-leb, lt-leb}
use lib.Dec.{leb}
use mir.Val.{bool_byte}
use Rattle.level.specs.Double.{exponent_field, fraction}
use Rattle.level.specs.Level.{top, level_bound}
use native.Mathlib.Omega.{arith}
use Rattle.level.proofs.Top.{top_normal, top_small, top_subnormal}
use borrow.Author.Rules.{rules}
use Rattle.level.proofs.top_level.Goals as goal

pub usual_top-requires : goal.usual_top-requires
usual_top-requires c = (search rules, omega arith)

pub returns-then-e-lt1060 : goal.returns-then-e-lt1060
returns-then-e-lt1060 c = c.usual_top.ensures c.args.bits (search rules)

pub returns-then-e-eq2047 : goal.returns-then-e-eq2047
returns-then-e-eq2047 c = sym (top_normal c.args.bits (λ e. omega (arith, e)) ∙ omega arith)

pub returns-then-e-ne0 : goal.returns-then-e-ne0
returns-then-e-ne0 c = c.any_top.ensures c.args.bits (search rules)

-- the number that the test of the fraction x is made
subnormal : (b x : ℕ) → exponent_field b ≡ 0 → x ≡ fraction b → bool_byte (leb level_bound x) ≡ top b
subnormal b x e f =
    elim (dec_le level_bound x) [
      | yes l ↦ rw (le-leb level_bound x l) (sym (top_subnormal b e (omega arith)))
      | no l ↦ rw (lt-leb level_bound x (omega arith)) (sym (top_small b e (omega arith)))
    ]

pub returns : goal.returns
returns c = c.from.ensures ∙ subnormal c.args.bits c.fraction_field.result (omega arith) c.fraction_field.ensures
