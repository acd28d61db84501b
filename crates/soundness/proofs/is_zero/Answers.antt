use mathlib.Core.Path.{ap}
use mathlib.Core.Bool.{Bool, ◌&&◌}
use lib.Dec.{eqb}
use mir.Syntax.{w64}
use mir.Val.{SFits}
use Rattle.soundness.proofs.Tests.{zero_by_bits}
use Rattle.record.specs.Sound.{is_zero}
use borrow.Author.Rules.{rules}
use Rattle.soundness.proofs.is_zero.Goals as goal
use Rattle.soundness.proofs.is_zero.Goals.{Start}

in-range : (c : Start) → SFits w64 c.args.x.carry
in-range c = search rules

pub returns : goal.returns
unfolding is_zero
returns c = ap (λ (t : Bool). eqb c.args.x.residue 0 && t) (zero_by_bits c.args.x.carry (in-range (goal.at.returns c).Start))
