-- The file of a saved table: its records, and a trailer.
use Rattle.std.specs.Prelude.{ℕ, ◌+◌, ◌*◌, Bool, not, ◌||◌, List, [], ◌∷◌, ◌++◌, eqb, length, take}
use Rattle.trailer.specs.Trailer.{trailer_field, trailer_of}

-- the mark, which the last four bytes must be
abbrev pub table_mark : List ℕ
table_mark = 0x54 ∷ 0x41 ∷ 0x42 ∷ 0x4C ∷ []

-- how long the file of g records is
abbrev pub saved_length : ℕ → ℕ
saved_length g = 64 * g + 16

-- the file of the table of g records in the bytes s: the records, then g, the distance back from the end to the first record, zero, and the mark
unfoldable pub saved_table : List ℕ → ℕ → List ℕ
saved_table s g = take (64 * g) s ++ trailer_of g (saved_length g) 0 table_mark

-- ---- read from the end

-- the group count g
abbrev pub group_count : List ℕ → ℕ
group_count f = trailer_field f 16

-- the distance back from the end to the first record
abbrev pub record_distance : List ℕ → ℕ
record_distance f = trailer_field f 12

-- the zero after it
abbrev pub zero_field : List ℕ → ℕ
zero_field f = trailer_field f 8

-- the condition of 19: the length, the distance or the zero after it is wrong
unfoldable pub wrong_layout : List ℕ → Bool
wrong_layout f =
    not (eqb (length f) (saved_length (group_count f)))
    || (not (eqb (record_distance f) (saved_length (group_count f)))
    || not (eqb (zero_field f) 0))
