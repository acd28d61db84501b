-- `report::print_line`: the room left for each piece of the line, and the line, piece by piece.
use denote.Floats.{passes}
use denote.Enum.Declared.{tag_of}
use lib.IntN.{negsuc, ◌+ℤ◌}
use mathlib.Core.Path.{◌≡◌, refl}
use mir.Val.{to_z, of_z}
use Rattle.std.specs.contracts.cmp.Ordering as ordering
use Rattle.std.specs.declared.cmp.Ordering.{Ordering}
use Rattle.std.specs.declared.cmp.Ordering.TheVariants.{Less, Equal, Greater}
use Rattle.limbs.specs.Side.{side_number}
use mir.Syntax.{w32}
use mir.ValLaws.{to_z-of_z}
use Rattle.std.proofs.Common.{append_assoc, length-append, arith, rules}
use Rattle.finish.proofs.Fraction.{not_nan}
use Rattle.report.proofs.Lines.{line_pieces}
use Rattle.report.proofs.print_line.Goals as goal

-- the number that a side is cast to
numbered : (d : Ordering) → to_z w32 (of_z w32 (to_z w32 (tag_of ordering.the_type d) +ℤ negsuc 0)) ≡ side_number d
numbered Less = refl
numbered Equal = refl
numbered Greater = refl

pub float_to_bits-line : goal.float_to_bits-line
float_to_bits-line c = not_nan c.args.line.sum (passes _ c.requires.finite_sum)

pub print_key_and_count-requires : goal.print_key_and_count-requires
print_key_and_count-requires c =
    let fits = simp (line_pieces, length-append) at c.requires.fits in
    simp length-append (omega arith)

pub push_field-requires : goal.push_field-requires
push_field-requires c =
    let fits = simp (line_pieces, length-append) at c.requires.fits in
    rw c.print_key_and_count.ensures (search rules, simp length-append (omega arith))

pub push_field-requires-2 : goal.push_field-requires-2
push_field-requires-2 c =
    let fits = simp (line_pieces, length-append) at c.requires.fits in
    rw (to_z-of_z w32 c.args.line.figure (omega arith), c.push_field.ensures, c.print_key_and_count.ensures) (search rules, simp length-append (omega arith))

pub push_field-requires-3 : goal.push_field-requires-3
push_field-requires-3 c =
    let fits = simp (line_pieces, length-append) at c.requires.fits in
    let figure = rw (to_z-of_z w32 c.args.line.figure (omega arith)) at c.push_field-2.ensures in
    rw (numbered c.args.line.side, figure, c.push_field.ensures, c.print_key_and_count.ensures) (search rules, simp length-append (omega arith))

pub returns : goal.returns
returns c =
    let figure = rw (to_z-of_z w32 c.args.line.figure (omega arith)) at c.push_field-2.ensures in
    let side = rw (numbered c.args.line.side) at c.push_field-3.ensures in
    rw (line_pieces, side, figure, c.push_field.ensures, c.print_key_and_count.ensures) (simp append_assoc)
