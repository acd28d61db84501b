-- `add_up_to_base` adds two kept totals: the residues' sum gives the new residue, and its carry goes to the carries.
use mathlib.Core.Path.{◌≡◌, sym, ap, ap₂, ◌∙◌}
use Prim.Native.Nat.{ℕ, ◌+◌, ◌/◌, ◌^◌, ◌<◌}
use native.Mathlib.Omega.{arith}
use mir.Syntax.{w64}
use mir.Val.{to_z, of_z}
use mir.ValLaws.{to_z-of_z}
use lib.IntN.{ℤ, pos, nat_abs, ◌+ℤ◌}
use Rattle.level.specs.Carry.{carry_base}
use Rattle.integers.proofs.Laws.{nat_abs-+ℤ}
use Rattle.integers.proofs.Width.{bits_back}
use Rattle.level.proofs.Carry.{split-sum}
use Rattle.level.proofs.add_up_to_base.Goals as goal

-- the sum of the two carries, and of that and the residues' carry
module _ (x y p o : ℤ) (n : ℕ) (hx : nat_abs x < 2 ^ 61) (hy : nat_abs y < 2 ^ 61) (ep : p ≡ to_z w64 (of_z w64 x) +ℤ to_z w64 (of_z w64 y)) (eo : o ≡ pos n) (hn : n < 2 ^ 60) where
  first : p ≡ x +ℤ y
  first = ep ∙ ap₂ ◌+ℤ◌ (bits_back w64 x (omega arith)) (bits_back w64 y (omega arith))

  first_small : nat_abs p < 2 ^ 62
  first_small = omega (arith, nat_abs-+ℤ x y, ap nat_abs first)

  carries-fit : nat_abs (to_z w64 (of_z w64 p)) + nat_abs (to_z w64 (of_z w64 o)) < 2 ^ 63
  carries-fit = let k : nat_abs o < 2 ^ 60 = omega (arith, ap nat_abs eo) in rw (bits_back w64 p (omega (arith, first_small)), bits_back w64 o (omega arith)) (omega (arith, first_small))

  second : to_z w64 (of_z w64 p) +ℤ to_z w64 (of_z w64 o) ≡ x +ℤ y +ℤ pos n
  second = let k : nat_abs o < 2 ^ 60 = omega (arith, ap nat_abs eo) in ap₂ ◌+ℤ◌ (bits_back w64 p (omega (arith, first_small)) ∙ first) (bits_back w64 o (omega arith) ∙ eo)

pub plus-requires : goal.plus-requires
plus-requires c =
    rw (bits_back w64 c.args.a.carry (omega arith), bits_back w64 c.args.b.carry (omega arith)) (omega arith)

pub returns : goal.returns
returns c =
    let p = c.plus in
    let o = c.with_sign-carried in
    let residue = c.last_digits.ensures in
    let carry =
    to_z-of_z w64 c.plus-2.result (record { sfits = c.plus-2.type_inv }) ∙ c.plus-2.ensures
    ∙ second c.args.a.carry c.args.b.carry p.result o.result ((c.args.a.residue + c.args.b.residue) / carry_base)
    c.requires.2 c.requires.3 p.ensures o.ensures (omega arith) in
    (λ i. record { residue = residue i; carry = carry i }) ∙ sym (split-sum c.args.a c.args.b)

pub plus-requires-2 : goal.plus-requires-2
plus-requires-2 c =
    carries-fit c.args.a.carry c.args.b.carry c.plus.result c.with_sign-carried.result ((c.args.a.residue + c.args.b.residue) / carry_base)
    c.requires.2 c.requires.3 c.plus.ensures c.with_sign-carried.ensures (omega arith)
