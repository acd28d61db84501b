-- Worked examples, computed from the definitions.
use Rattle.std.specs.Prelude.{ℕ, ◌≡◌, refl, List, [], ◌∷◌, ◌++◌, replicate}
use Rattle.std.specs.Float.Ieee.{to_bits, of_bits}
use Rattle.lists.specs.Lists.{any_of}
use Rattle.codec.specs.Bytes.{number, bytes, number_at}
use Rattle.codec.specs.Cells.{cells, image}
use Rattle.refusal.specs.Outcome.{Outcome, refused}
use Rattle.level.specs.Level.{top_from, top, given, contribution, total}
use Rattle.level.specs.Finest.{finest_of}
use Rattle.single.specs.Single.{widened}
use Rattle.columns.specs.declared.Kind.{Kind}
use Rattle.columns.specs.declared.Kind.TheVariants.{Double, Single}
use Rattle.columns.specs.Columns.{width, Row, rows_from, columns_fit, rows_of}
use Rattle.record.specs.Section.{section_at, section_bytes, written, find}
use Rattle.record.specs.Layout.{encode, decode}
use Rattle.record.specs.Keys.{rising}
use Rattle.record.specs.Sound.{sound_total, is_zero, sound_record, sound_records, sound}
use Rattle.table.specs.Combine.{of_row, level_of, combine, absorb, added}
use Rattle.table.specs.Calls.{column_grounds}
use Rattle.remove.specs.Remaining.{without, without_if, all_without, with_rows, remaining, has_fewer, has_lower, exceeds}
use Rattle.remove.specs.Calls.{patch_grounds, remove_grounds, remove_outcome, remove_leaves}

-- the doubles 1, 2, 2^60 and the smallest one
abbrev pub one : ℕ
one = 0x3FF0000000000000

abbrev pub two : ℕ
two = 0x4000000000000000

abbrev pub large : ℕ
large = 0x43B0000000000000

abbrev smallest : ℕ
smallest = 1

-- a row of section k
abbrev row : ℕ → ℕ → Row
row k b = record { key = k; bits = b }

-- a buffer for three records and some bytes more, and the table of some rows in it
abbrev pub empty_buffer : List ℕ
empty_buffer = replicate 200 255

abbrev table_with : List Row → List ℕ
table_with rows = written (added [] rows) empty_buffer

-- the outcome of a removal of rows, given by keys and the bits of values of some kind, from the table of g records in s
taken : Kind → List ℕ → ℕ → List ℕ → List ℕ → Outcome ℕ
unfolding remove_grounds column_grounds patch_grounds sound rising cells sound_records sound_record sound_total is_zero columns_fit image bytes any_of rows_of rows_from number number_at added absorb combine level_of of_row top top_from given contribution finest_of encode decode widened of_bits to_bits find without without_if all_without with_rows remaining has_fewer has_lower exceeds
taken kind s g ks vs = remove_outcome kind s g (image (bytes 4) ks) (image (bytes (width kind)) vs) 200

-- the bytes that it leaves
bytes_after : Kind → List ℕ → ℕ → List ℕ → List ℕ → List ℕ
unfolding taken
bytes_after kind s g ks vs = remove_leaves kind s g (image (bytes 4) ks) (image (bytes (width kind)) vs) 200

-- one of two rows of section 7 goes: the record of the other is left, whether 2 is removed as a double or as a short float; its finest power is that of 1
one_of_two : bytes_after Double (table_with (row 7 one ∷ row 7 two ∷ [])) 1 (7 ∷ []) (two ∷ []) ∷ bytes_after Single (table_with (row 7 one ∷ row 7 two ∷ [])) 1 (7 ∷ []) (0x40000000 ∷ []) ∷ []
    ≡ replicate 2 (table_with (row 7 one ∷ []))
unfolding bytes_after
one_of_two = refl

-- the row that set the top goes: the top stays, with the other row's totals at the three levels from there
top_stays : bytes_after Double (table_with (row 7 one ∷ row 7 large ∷ [])) 1 (7 ∷ []) (large ∷ []) ≡ written (section_at 7 1 28 1074 (total (one ∷ [])) ∷ []) empty_buffer
unfolding bytes_after total
top_stays = refl

-- the row that set the finest power goes: the finest power stays
finest_stays : bytes_after Double (table_with (row 7 one ∷ row 7 smallest ∷ [])) 1 (7 ∷ []) (smallest ∷ []) ≡ written (section_at 7 1 26 0 (total (one ∷ [])) ∷ []) empty_buffer
unfolding bytes_after total
finest_stays = refl

-- section 3 goes: the record of section 7 moves down, and the 64 bytes that it leaves are zero
section_goes : bytes_after Double (table_with (row 3 two ∷ row 7 one ∷ [])) 2 (3 ∷ []) (two ∷ []) ≡ section_bytes (added [] (row 7 one ∷ [])) ++ replicate 64 0 ++ replicate 72 255
unfolding bytes_after
section_goes = refl

-- 20: a section is absent, or has fewer rows; 21: the patch's top exceeds the held one; 22: no row would remain, but a total;
-- each is looked for in all sections before the next
refusals : taken Double (table_with (row 7 one ∷ [])) 1 (8 ∷ []) (one ∷ [])
    ∷ taken Double (table_with (row 7 one ∷ [])) 1 (7 ∷ 7 ∷ []) (one ∷ one ∷ [])
    ∷ taken Double (table_with (row 7 one ∷ row 7 two ∷ [])) 1 (7 ∷ []) (large ∷ [])
    ∷ taken Double (table_with (row 7 one ∷ [])) 1 (7 ∷ []) (two ∷ [])
    ∷ taken Double (table_with (row 7 one ∷ row 8 one ∷ [])) 2 (7 ∷ 8 ∷ 9 ∷ []) (two ∷ large ∷ one ∷ [])
    ∷ taken Double (table_with (row 7 one ∷ row 8 one ∷ [])) 2 (7 ∷ 8 ∷ []) (two ∷ large ∷ [])
    ∷ []
    ≡ refused 20 ∷ refused 20 ∷ refused 21 ∷ refused 22 ∷ refused 20 ∷ refused 21 ∷ []
unfolding taken
refusals = refl

-- a short float that is infinite, and a column of short floats told to be one of doubles
kinds_refused : taken Single (table_with (row 7 one ∷ [])) 1 (7 ∷ []) (0x7F800000 ∷ []) ∷ remove_outcome Double (table_with (row 7 one ∷ [])) 1 (7 ∷ 0 ∷ 0 ∷ 0 ∷ []) (0 ∷ 0 ∷ 0x80 ∷ 0x3F ∷ []) 200 ∷ []
    ≡ refused 10 ∷ refused 9 ∷ []
unfolding taken
kinds_refused = refl
