-- Worked examples, computed from the definitions.
use Rattle.std.specs.Prelude.{ℕ, ◌≡◌, refl, List, [], ◌∷◌, ◌++◌, map, pos, replicate, drop}
use Rattle.codec.specs.Bytes.{number, bytes, number_at}
use Rattle.codec.specs.Cells.{cells, image}
use Rattle.refusal.specs.Outcome.{Outcome, accepted, refused}
use Rattle.trailer.specs.Trailer.{trailer_of}
use Rattle.record.specs.Layout.{encode, decode}
use Rattle.record.specs.Keys.{rising}
use Rattle.record.specs.Sound.{sound_total, is_zero, sound_record, sound_records, sound}
use Rattle.record.specs.Section.{Section, section_bytes}
use Rattle.checkpoint.specs.Saved.{table_mark, saved_table, wrong_layout}
use Rattle.checkpoint.specs.Calls.{save_grounds, save_outcome, save_leaves, load_grounds, load_outcome, load_leaves}

-- a section of one row that is 0
abbrev zero_section : ℕ → Section
zero_section k = record { key = k; count = 1; top = 0; finest = 2098; high = pos 0; middle = pos 0; low = pos 0 }

-- the 64 bytes of its record
abbrev zero_record : ℕ → List ℕ
zero_record k = section_bytes (zero_section k ∷ [])

-- a table of two such sections in 130 bytes
abbrev two_sections : List ℕ
two_sections = zero_record 1 ++ zero_record 2 ++ 255 ∷ 255 ∷ []

-- the files of a table without sections and of that one, byte by byte at the end
files_saved :
    (saved_table two_sections 0 ≡ 0 ∷ 0 ∷ 0 ∷ 0 ∷ 16 ∷ 0 ∷ 0 ∷ 0 ∷ 0 ∷ 0 ∷ 0 ∷ 0 ∷ 0x54 ∷ 0x41 ∷ 0x42 ∷ 0x4C ∷ [])
    × (saved_table two_sections 2 ≡ zero_record 1 ++ zero_record 2 ++ 2 ∷ 0 ∷ 0 ∷ 0 ∷ 0x90 ∷ 0 ∷ 0 ∷ 0 ∷ 0 ∷ 0 ∷ 0 ∷ 0 ∷ 0x54 ∷ 0x41 ∷ 0x42 ∷ 0x4C ∷ [])
unfolding saved_table trailer_of image encode bytes
files_saved = (refl, refl)

-- the outputs left: one with room for two bytes more, one that is a byte too short, and that of a table that is not sound, whatever the room
saves_left :
    (save_leaves two_sections 2 (replicate 146 7) ≡ saved_table two_sections 2 ++ 7 ∷ 7 ∷ [])
    × (save_leaves two_sections 2 (replicate 143 7) ≡ replicate 143 7)
    × (save_leaves two_sections 3 (replicate 300 7) ≡ replicate 300 7)
unfolding save_leaves save_outcome save_grounds saved_table trailer_of sound rising sound_records sound_record sound_total is_zero cells image encode decode bytes number_at number
saves_left = (refl, refl, refl)

-- a file, the length of the table it is loaded into, and what loading says
record LoadExample : Type 0 where
  pub input : List ℕ
  pub table-length : ℕ
  pub expected : Outcome ℕ

-- such an example in one line
abbrev load_case : List ℕ → ℕ → Outcome ℕ → LoadExample
load_case f n o = record { input = f; table-length = n; expected = o }

-- a file with these records and a trailer of these numbers
abbrev file_with : List ℕ → ℕ → ℕ → ℕ → List ℕ
file_with rs g d z = rs ++ trailer_of g d z table_mark

-- one record and its neighbours
load_examples : List LoadExample
load_examples =
    load_case [] 64 (refused 2)
    ∷ load_case (replicate 15 0) 64 (refused 2)
    ∷ load_case (replicate 16 0) 64 (refused 3)
    ∷ load_case (zero_record 1 ++ trailer_of 1 80 0 (0x4C ∷ 0x41 ∷ 0x53 ∷ 0x54 ∷ [])) 64 (refused 3)
    -- no record at all, into any table
    ∷ load_case (file_with [] 0 16 0) 0 (accepted 0)
    ∷ load_case (file_with (zero_record 1) 1 80 0) 64 (accepted 1)
    -- group count, distance, zero and length wrong by one
    ∷ load_case (file_with (zero_record 1) 0 80 0) 64 (refused 19)
    ∷ load_case (file_with (zero_record 1) 2 80 0) 64 (refused 19)
    ∷ load_case (file_with (zero_record 1) 1 79 0) 64 (refused 19)
    ∷ load_case (file_with (zero_record 1) 1 80 1) 64 (refused 19)
    ∷ load_case (0 ∷ file_with (zero_record 1) 1 80 0) 64 (refused 19)
    ∷ load_case (drop 1 (file_with (zero_record 1) 1 80 0)) 64 (refused 19)
    -- a distance that points to the last record alone
    ∷ load_case (file_with (zero_record 1 ++ zero_record 2) 2 80 0) 128 (refused 19)
    -- 64g + 16 is not reduced modulo 2^32
    ∷ load_case (file_with [] 0x4000000 16 0) 64 (refused 19)
    -- 19 goes before 16, and 16 before 7
    ∷ load_case (file_with (zero_record 1) 1 80 1) 63 (refused 19)
    ∷ load_case (file_with (zero_record 1) 1 80 0) 63 (refused 16)
    ∷ load_case (file_with (replicate 64 0) 1 80 0) 63 (refused 16)
    ∷ load_case (file_with (replicate 64 0) 1 80 0) 64 (refused 7)
    ∷ load_case (file_with (zero_record 2 ++ zero_record 1) 2 144 0) 128 (refused 7)
    ∷ []

loads_computed : map (λ (e : LoadExample). load_outcome e.input e.table-length) load_examples ≡ map (λ (e : LoadExample). e.expected) load_examples
unfolding load_examples load_outcome load_grounds wrong_layout trailer_of sound rising sound_records sound_record sound_total is_zero cells image encode decode bytes number_at number
loads_computed = refl

-- the tables left: the records and the bytes that were there, and one whose record would not be sound
loads_left :
    (load_leaves (file_with (zero_record 1) 1 80 0) (replicate 66 7) ≡ zero_record 1 ++ 7 ∷ 7 ∷ [])
    × (load_leaves (file_with (replicate 64 0) 1 80 0) (replicate 66 7) ≡ replicate 66 7)
unfolding load_leaves load_outcome load_grounds wrong_layout trailer_of sound rising sound_records sound_record sound_total is_zero cells image encode decode bytes number_at number
loads_left = (refl, refl)
