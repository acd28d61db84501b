use Prim.Native.Nat.{◌<◌}
use mathlib.Core.Path.{refl}
use native.Mathlib.Omega.{arith}
use lib.Dec.{lit<}
use lib.Count.{leading_le}
use lib.Ieee.{size}
use Rattle.single.proofs.Pattern.{subnormal_lt, subnormal_bits}
use Rattle.single.proofs.widen_subnormal.Goals as goal
use Rattle.single.proofs.widen_subnormal.Goals.{Else-fraction-eq0}

-- past the test, the fraction is not 0
some : (c : Else-fraction-eq0) → 0 < c.args.fraction
some c = omega arith

pub returns-then-fraction-eq0 : goal.returns-then-fraction-eq0
unfolding size
returns-then-fraction-eq0 c = (rw c.if-fraction-eq0.true refl, lit< tt)

pub returns : goal.returns
returns c = let f = c.args.fraction in (subnormal_bits f (some (goal.at.returns c).Else-fraction-eq0) c.requires, subnormal_lt f (some (goal.at.returns c).Else-fraction-eq0) c.requires)

pub overflow_sub-digits : goal.overflow_sub-digits
overflow_sub-digits c = leading_le 32 c.args.fraction

pub overflow_add-result-2 : goal.overflow_add-result-2
overflow_add-result-2 c = omega (arith, subnormal_lt c.args.fraction (some (goal.at.overflow_add-result-2 c).Else-fraction-eq0) c.requires)
