use mathlib.Core.Path.{refl, ◌∙◌}
use native.Mathlib.Omega.{arith}
use borrow.Author.Tests.{lt-ltb, le-ltb}
use mir.Syntax.{w64}
use mir.Val.{SFits}
use Rattle.level.specs.Carry.{carry_base}
use Rattle.integers.proofs.Width.{below-zero, from_zero}
use Rattle.record.specs.Sound.{sound_total}
use Rattle.soundness.proofs.Tests.{size_negative, size_positive}
use borrow.Author.Rules.{rules}
use Rattle.soundness.proofs.total_sound.Goals as goal
use Rattle.soundness.proofs.total_sound.Goals.{Start}

in-range : (c : Start) → SFits w64 c.args.x.carry
in-range c = search rules

pub overflow_cast-c : goal.overflow_cast-c
overflow_cast-c c =
    let h = below-zero w64 c.args.x.carry (in-range (goal.at.overflow_cast-c c).Start) c.if-c-lt0.true in
    rw h.complement (tt, omega arith)

pub returns-then-c-lt0 : goal.returns-then-c-lt0
unfolding sound_total
returns-then-c-lt0 c =
    let x = c.args.x in
    let e = size_negative x.carry x.residue (in-range (goal.at.returns-then-c-lt0 c).Start) c.if-s-lt-CARRY_BASE.true c.if-c-lt0.true in
    c.at_most.ensures ∙ rw (lt-ltb x.residue (carry_base) c.if-s-lt-CARRY_BASE.true, e) refl

pub overflow_cast-c-then-s-lt-CARRY_BASE : goal.overflow_cast-c-then-s-lt-CARRY_BASE
overflow_cast-c-then-s-lt-CARRY_BASE c =
    let h = from_zero w64 c.args.x.carry (in-range (goal.at.overflow_cast-c-then-s-lt-CARRY_BASE c).Start) c.if-c-lt0.false in
    rw h.same (tt, omega arith)

pub returns-then-s-lt-CARRY_BASE : goal.returns-then-s-lt-CARRY_BASE
unfolding sound_total
returns-then-s-lt-CARRY_BASE c =
    let x = c.args.x in
    let e = size_positive x.carry x.residue (in-range (goal.at.returns-then-s-lt-CARRY_BASE c).Start) c.if-c-lt0.false in
    c.at_most-then-s-lt-CARRY_BASE.ensures ∙ rw (lt-ltb x.residue (carry_base) c.if-s-lt-CARRY_BASE.true, e) refl

pub returns : goal.returns
unfolding sound_total
returns c = rw (le-ltb c.args.x.residue (carry_base) c.if-s-lt-CARRY_BASE.false)
