use mathlib.Core.Path.{ap, ◌∙◌}
use borrow.Author.Rules.{rules}
use mir.Syntax.{w64}
use mir.Val.{SFits}
use mir.ValLaws.{to_z-of_z}
use Rattle.level.specs.Carry.{carry_of, residue_of}
use Rattle.level.proofs.split.Goals as goal
use Rattle.level.proofs.split.Goals.{After-carry_of}

in-range : (c : After-carry_of) → SFits w64 c.carry_of.result
in-range c = search rules

pub returns : goal.returns
returns c =
    let total = to_z-of_z w64 c.args.total c.ranges.total in
    let residue = c.residue_of.ensures ∙ ap residue_of total in
    let carry = to_z-of_z w64 c.carry_of.result (in-range (goal.at.returns c).After-carry_of) ∙ c.carry_of.ensures ∙ ap carry_of total in
    λ i. record { residue = residue i; carry = carry i }
