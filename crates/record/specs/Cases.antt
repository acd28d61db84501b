-- Worked examples, computed from the definitions.
use Rattle.std.specs.Prelude.{ℕ, ◌^◌, ◌+◌, ◌-◌, ◌≡◌, refl, true, false, List, [], ◌∷◌, ◌++◌, map, pos, negsuc, replicate}
use Rattle.codec.specs.Bytes.{number, bytes, number_at}
use Rattle.codec.specs.Cells.{cells}
use Rattle.level.specs.declared.SplitTotal.{SplitTotal}
use Rattle.record.specs.declared.Record.{Record}
use Rattle.std.specs.Prelude.{Ok, Err}
use Rattle.record.specs.Layout.{decode, encode, records}
use Rattle.record.specs.Keys.{record_keys, rising, count_below, has, place}
use Rattle.level.specs.Carry.{total_of}
use Rattle.record.specs.Sound.{sound_total, is_zero, sound_record, sound_records, sound}

-- the total 0
abbrev pub nothing : SplitTotal
nothing = record { residue = 0; carry = pos 0 }

-- section 7 with two rows at top 26: totals -5, 3 and 0
abbrev sample_record : Record
sample_record = record { key = 7; count = 2; top = 26; finest = 1000; high = record { residue = 2 ^ 50 - 5; carry = negsuc 0 }; middle = record { residue = 3; carry = pos 0 }; low = nothing }

sample_totals : map total_of (sample_record.high ∷ sample_record.middle ∷ sample_record.low ∷ []) ≡ negsuc 4 ∷ pos 3 ∷ pos 0 ∷ []
sample_totals = refl

read_back_record : decode (encode sample_record) ≡ sample_record
unfolding decode encode bytes number_at number
read_back_record = refl

sample_sound : sound_record sample_record ≡ true
unfolding sound_record sound_total is_zero
sample_sound = refl

-- a table of one record, with bytes after it that do not count
abbrev one_record : List ℕ
one_record = encode sample_record ++ replicate 70 255

one_sound : sound one_record 1 ≡ true
unfolding sound sound_records sound_record sound_total is_zero rising cells decode encode bytes number_at number
one_sound = refl

twice_not : sound (encode sample_record ++ encode sample_record) 2 ≡ false
unfolding sound sound_records sound_record sound_total is_zero rising cells decode encode bytes number_at number
twice_not = refl

place_found : place 7 (record_keys (records one_record 1)) ≡ Ok 0
unfolding has count_below cells decode encode bytes number_at number
place_found = refl

place_between : place 8 (record_keys (records one_record 1)) ≡ Err 1
unfolding has count_below cells decode encode bytes number_at number
place_between = refl

-- at the bound, and one past it, on either side
edge : (sound_total 1 (record { residue = 2 ^ 39; carry = pos 0 }) ≡ true) × (sound_total 1 (record { residue = 2 ^ 39 + 1; carry = pos 0 }) ≡ false)
unfolding sound_total
edge = (refl, refl)

edge-below : (sound_total 1 (record { residue = 2 ^ 50 - 2 ^ 39; carry = negsuc 0 }) ≡ true) × (sound_total 1 (record { residue = 2 ^ 50 - 2 ^ 39 - 1; carry = negsuc 0 }) ≡ false)
unfolding sound_total
edge-below = (refl, refl)
