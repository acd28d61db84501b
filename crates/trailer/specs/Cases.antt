-- Worked examples, computed from the definitions.
use Rattle.std.specs.Prelude.{ℕ, ◌≡◌, refl, true, false, List, [], ◌∷◌, map}
use Rattle.codec.specs.Bytes.{number, bytes, number_at}
use Rattle.trailer.specs.Trailer.{trailer, trailer_field, ends_in, trailer_of}

-- one byte, and then a trailer
abbrev marked_file : List ℕ
marked_file = 9 ∷ trailer_of 3 0x0102 5 (0x4C ∷ 0x41 ∷ 0x53 ∷ 0x54 ∷ [])

marked-bytes : trailer marked_file ≡ 3 ∷ 0 ∷ 0 ∷ 0 ∷ 2 ∷ 1 ∷ 0 ∷ 0 ∷ 5 ∷ 0 ∷ 0 ∷ 0 ∷ 0x4C ∷ 0x41 ∷ 0x53 ∷ 0x54 ∷ []
unfolding trailer_of bytes
marked-bytes = refl

marked_fields : map (trailer_field marked_file) (16 ∷ 12 ∷ 8 ∷ 4 ∷ []) ≡ 3 ∷ 0x0102 ∷ 5 ∷ 0x5453414C ∷ []
unfolding trailer_of number bytes number_at
marked_fields = refl

-- the mark's bytes count in their order
marked_marks : map (λ (m : List ℕ). ends_in m marked_file) ((0x4C ∷ 0x41 ∷ 0x53 ∷ 0x54 ∷ []) ∷ (0x54 ∷ 0x53 ∷ 0x41 ∷ 0x4C ∷ []) ∷ []) ≡ true ∷ false ∷ []
unfolding trailer_of number bytes number_at
marked_marks = refl
