-- `plus` adds: the sizes together leave room.
use native.Mathlib.Nat.{lt_of_le_of_lt}
use mir.Syntax.{w64}
use mir.ValLaws.{to_z-of_z}
use lib.IntN.{◌+ℤ◌}
use Rattle.integers.proofs.Laws.{nat_abs-+ℤ}
use Rattle.integers.proofs.Width.{nat_abs_fits, bits_back}
use Rattle.level.proofs.plus.Goals as goal

pub overflow_add-result : goal.overflow_add-result
overflow_add-result c =
    let x = c.args.x in
    let y = c.args.y in
    rw (to_z-of_z w64 x c.ranges.x, to_z-of_z w64 y c.ranges.y) (nat_abs_fits w64 (x +ℤ y) (lt_of_le_of_lt (nat_abs-+ℤ x y) c.requires))

pub returns : goal.returns
returns c =
    let x = c.args.x in
    let y = c.args.y in
    rw (to_z-of_z w64 x c.ranges.x, to_z-of_z w64 y c.ranges.y) (bits_back w64 (x +ℤ y) (lt_of_le_of_lt (nat_abs-+ℤ x y) c.requires))
