-- `subtract_totals` adds the opposite total: its carry complemented, and what its residue lacks of 2^50.
use Prim.Native.Nat.{◌-◌, ◌^◌, ◌<◌}
use mathlib.Core.Path.{◌≡◌, ap, ◌∙◌}
use native.Mathlib.Omega.{arith}
use mir.Syntax.{w64}
use mir.Val.{to_z, of_z}
use lib.IntN.{ℤ, pos, neg_ℤ, ◌+ℤ◌, ◌-ℤ◌, ◌*ℤ◌, nat_abs}
use Rattle.level.specs.Carry.{split_of, total_of, carry_base}
use Rattle.integers.proofs.Laws.{nat_abs-+ℤ, nat_abs-neg}
use Rattle.integers.proofs.Width.{nat_abs_fits, complemented}
use Rattle.level.proofs.Carry.{total_opposite}
use Rattle.level.proofs.subtract_totals.Goals as goal

module _ (c : ℤ) (h : nat_abs c < 2 ^ 60) where
  complement-is : to_z w64 (2 ^ 64 - 1 - of_z w64 c) ≡ neg_ℤ c -ℤ pos 1
  complement-is = complemented w64 c (nat_abs_fits w64 c (omega arith))

  complement-small : nat_abs (to_z w64 (2 ^ 64 - 1 - of_z w64 c)) < 2 ^ 61
  complement-small = rw complement-is (omega (arith, nat_abs-+ℤ (neg_ℤ c) (neg_ℤ (pos 1)), nat_abs-neg c))

pub add_up_to_base-requires : goal.add_up_to_base-requires
add_up_to_base-requires c =
    (c.requires.0, omega arith, c.requires.2, complement-small c.args.b.carry c.requires.3)

pub returns : goal.returns
returns c =
    let b = c.args.b in
    let said : c.add_up_to_base.result ≡ split_of (total_of c.args.a +ℤ (to_z w64 (2 ^ 64 - 1 - of_z w64 b.carry) *ℤ pos carry_base +ℤ pos (carry_base - b.residue))) = c.add_up_to_base.ensures in
    said
    ∙ ap (λ (z : ℤ). split_of (total_of c.args.a +ℤ (z *ℤ pos carry_base +ℤ pos (carry_base - b.residue)))) (complement-is b.carry c.requires.3)
    ∙ ap (λ (z : ℤ). split_of (total_of c.args.a +ℤ z)) (total_opposite b.residue c.requires.1 b.carry)
