-- Worked examples, computed from the definitions.
use Rattle.std.specs.Prelude.{ℕ, ◌≡◌, refl, List, [], ◌∷◌, pos, replicate}
use Rattle.codec.specs.Bytes.{number, bytes, number_at}
use Rattle.codec.specs.Cells.{cells, image}
use Rattle.refusal.specs.Outcome.{accepted, refused}
use Rattle.record.specs.Layout.{encode, decode, most_groups}
use Rattle.record.specs.Keys.{rising}
use Rattle.record.specs.Sound.{sound_total, is_zero, sound_record, sound_records, sound}
use Rattle.record.specs.Section.{Section, written}
use Rattle.table.specs.Calls.{most_rows}
use Rattle.totals.specs.Totals.{row_total, totals_outcome}

-- a section with n rows that are 0
abbrev section_of_zeros : ℕ → ℕ → Section
section_of_zeros k n = record { key = k; count = n; top = 0; finest = 2098; high = pos 0; middle = pos 0; low = pos 0 }

-- a buffer of 200 bytes with the records of these sections
abbrev buffer_of : List Section → List ℕ
buffer_of ts = written ts (replicate 200 255)

-- the row counts of as many sections as there can be, each with as many rows as it can have, whatever their numbers
largest-total : row_total (replicate most_groups (section_of_zeros 0 most_rows)) ≡ 4398046510080
unfolding row_total
largest-total = refl

-- no section; 2 and 1 rows; two full row counts, of which the total does not fit 32 bits; one record fewer than there are; one more, which is not sound;
-- keys that do not rise
totals-computed :
    (totals_outcome (buffer_of []) 0 ≡ accepted (record { groups = 0; count = 0 }))
    × (totals_outcome (buffer_of (section_of_zeros 1 2 ∷ section_of_zeros 2 1 ∷ [])) 2 ≡ accepted (record { groups = 2; count = 3 }))
    × (totals_outcome (buffer_of (section_of_zeros 1 4294967295 ∷ section_of_zeros 2 4294967295 ∷ [])) 2 ≡ accepted (record { groups = 2; count = 8589934590 }))
    × (totals_outcome (buffer_of (section_of_zeros 1 2 ∷ section_of_zeros 2 1 ∷ [])) 1 ≡ accepted (record { groups = 1; count = 2 }))
    × (totals_outcome (buffer_of (section_of_zeros 1 2 ∷ section_of_zeros 2 1 ∷ [])) 3 ≡ refused 7)
    × (totals_outcome (buffer_of (section_of_zeros 2 1 ∷ section_of_zeros 1 2 ∷ [])) 2 ≡ refused 7)
unfolding row_total sound rising sound_records sound_record sound_total is_zero cells image encode decode bytes number_at number
totals-computed = (refl, refl, refl, refl, refl, refl)
