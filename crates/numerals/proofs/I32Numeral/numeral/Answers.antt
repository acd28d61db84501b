-- The sign is pushed where there is one; the size has at most ten digits.
use mir.Syntax.{w32}
use mir.ValLaws.{to_z-of_z}
use Rattle.std.proofs.Common.{refl, ◌∙◌, arith, rules}
use Rattle.numerals.proofs.Signs.{negative_text, unsigned_text}
use Rattle.numerals.proofs.Size.{length-decimal}
use Rattle.numerals.proofs.I32Numeral.numeral.Goals as goal
use Rattle.numerals.proofs.I32Numeral.numeral.Goals.{then-self-lt0, else-self-lt0}

pub push_decimal-requires : goal.push_decimal-requires
push_decimal-requires c =
    let few = length-decimal c.from.result (omega arith) in
    elim c.if-self-lt0.branch [
      | then-self-lt0 w ↦ rw (w.text-is, w.push.ensures, c.new-text.ensures) (search rules, omega arith)
      | else-self-lt0 w ↦ rw (w.text-is, c.new-text.ensures) (search rules, omega arith)
    ]

pub returns : goal.returns
returns c =
    let same = to_z-of_z w32 c.args.self c.ranges.self in
    let size = c.from.ensures ∙ rw same at c.unsigned_abs.ensures.value in
    elim c.if-self-lt0.branch [
      | then-self-lt0 w ↦ rw (negative_text c.args.self (rw same at w.if-self-lt0.true), ← size, c.push_decimal.ensures, w.text-is, w.push.ensures, c.new-text.ensures) refl
      | else-self-lt0 w ↦ rw (unsigned_text c.args.self (rw same at w.if-self-lt0.false), ← size, c.push_decimal.ensures, w.text-is, c.new-text.ensures) refl
    ]
