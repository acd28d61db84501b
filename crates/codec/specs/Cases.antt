-- Worked examples, computed from the definitions.
use Rattle.std.specs.Prelude.{◌^◌, ◌-◌, ◌≡◌, refl, [], ◌∷◌, negsuc}
use Rattle.std.specs.Int.{w64}
use Rattle.std.proofs.Common.{to_z, of_z}
use Rattle.codec.specs.Bytes.{number, bytes, number_at}
use Rattle.codec.specs.Cells.{cells}

-- the low byte comes first
low_byte_first : bytes 4 0x01020304 ≡ 4 ∷ 3 ∷ 2 ∷ 1 ∷ []
unfolding bytes
low_byte_first = refl

read_back : number_at 2 (9 ∷ 0x34 ∷ 0x12 ∷ 9 ∷ []) 1 ≡ 0x1234
unfolding number number_at
read_back = refl

cells-read : cells 2 number 2 (1 ∷ 0 ∷ 2 ∷ 1 ∷ []) ≡ 1 ∷ 258 ∷ []
unfolding number cells
cells-read = refl

-- -1 has all bits set
minus_one : (of_z w64 (negsuc 0) ≡ 2 ^ 64 - 1) × (to_z w64 (2 ^ 64 - 1) ≡ negsuc 0)
minus_one = (refl, refl)
