-- Small examples of a merge, computed from the definitions.
use Rattle.std.specs.Prelude.{ℕ, ◌≡◌, refl, List, [], ◌++◌, replicate}
use Rattle.codec.specs.Bytes.{number, bytes, number_at}
use Rattle.codec.specs.Cells.{cells, image}
use Rattle.record.specs.Cases.{nothing}
use Rattle.record.specs.Layout.{decode, encode}
use Rattle.record.specs.Keys.{rising}
use Rattle.record.specs.Sound.{sound_total, is_zero, sound_record, sound_records, sound}
use Rattle.refusal.specs.Outcome.{accepted, refused}
use Rattle.table.specs.Combine.{level_of, combine, absorb, merged}
use Rattle.table.specs.Calls.{most_rows, merge_grounds, merge_outcome, merge_leaves}
use Rattle.lists.specs.Lists.{any_of}

-- a table of one record: its rows are n zeros
abbrev zero_rows : ℕ → ℕ → List ℕ
zero_rows k n = encode (record { key = k; count = n; top = 0; finest = 2098; high = nothing; middle = nothing; low = nothing })

-- keys 1 and 2 in a 64-byte table, and in one of 128 bytes
no_room : merge_outcome (zero_rows 1 1) 1 (zero_rows 2 1) 1 ≡ refused 12
unfolding merge_grounds merged absorb combine level_of any_of sound sound_records sound_record sound_total is_zero rising cells decode encode bytes number_at number
no_room = refl

with_room : merge_outcome (zero_rows 1 1 ++ replicate 64 255) 1 (zero_rows 2 1) 1 ≡ accepted 2
unfolding merge_grounds merged absorb combine level_of any_of sound sound_records sound_record sound_total is_zero rising cells decode encode bytes number_at number
with_room = refl

-- keys stand in rising order, whichever table they come from; the bytes after them stay
in_order : merge_leaves (zero_rows 2 1 ++ replicate 65 255) 1 (zero_rows 1 1) 1 ≡ zero_rows 1 1 ++ zero_rows 2 1 ++ replicate 1 255
unfolding merge_grounds merged absorb combine level_of any_of sound sound_records sound_record sound_total is_zero rising cells image decode encode bytes number_at number
in_order = refl

-- an equal key: the counts are added
counts-added : merge_leaves (zero_rows 7 3) 1 (zero_rows 7 4) 1 ≡ zero_rows 7 7
unfolding merge_grounds merged absorb combine level_of any_of sound sound_records sound_record sound_total is_zero rising cells image decode encode bytes number_at number
counts-added = refl

-- one row onto a sound record at that count
too_many : merge_outcome (zero_rows 7 most_rows) 1 (zero_rows 7 1) 1 ≡ refused 11
unfolding merge_grounds merged absorb combine level_of any_of sound sound_records sound_record sound_total is_zero rising cells decode encode bytes number_at number
too_many = refl

-- g = 1 and an empty buffer, as either table
not_sound : (merge_outcome [] 1 (zero_rows 2 1) 1 ≡ refused 7) × (merge_outcome (zero_rows 1 1) 1 [] 1 ≡ refused 7)
unfolding merge_grounds merged absorb combine level_of any_of sound sound_records sound_record sound_total is_zero rising cells decode encode bytes number_at number
not_sound = (refl, refl)
