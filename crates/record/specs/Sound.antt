-- Document 01's sound table, with Card 7's range for the finest power: these conditions and no other.
use Rattle.std.specs.Prelude.{ℕ, ◌*◌, Bool, true, ◌&&◌, ◌||◌, List, [], ◌∷◌, ltb, leb, eqb, nat_abs, length}
use Rattle.level.specs.declared.SplitTotal.{SplitTotal}
use Rattle.level.specs.Level.{level_bound}
use Rattle.level.specs.Finest.{highest_power}
use Rattle.level.specs.Carry.{carry_base, total_of}
use Rattle.record.specs.declared.Record.{Record}
use Rattle.record.specs.Layout.{records, capacity}
use Rattle.record.specs.Keys.{record_keys, rising}

-- the residue is in range, and the total at most n × 2^39 in size, for n rows
unfoldable pub sound_total : ℕ → SplitTotal → Bool
sound_total n t = ltb t.residue carry_base && leb (nat_abs (total_of t)) (n * level_bound)

-- a level that holds 0
unfoldable pub is_zero : SplitTotal → Bool
is_zero t = eqb t.residue 0 && eqb (nat_abs t.carry) 0

-- one record by itself; levels below 0 hold 0
unfoldable pub sound_record : Record → Bool
sound_record r =
    leb 1 r.count && leb r.top 52 && leb r.finest highest_power
    && sound_total r.count r.high && sound_total r.count r.middle && sound_total r.count r.low
    && (leb 1 r.top || is_zero r.middle) && (leb 2 r.top || is_zero r.low)

-- every record is sound by itself
unfoldable pub sound_records : List Record → Bool
sound_records [] = true
sound_records (r ∷ rs) = sound_record r && sound_records rs

-- a table of g records in the bytes s
unfoldable pub sound : List ℕ → ℕ → Bool
sound s g = leb g (capacity (length s)) && (rising (record_keys (records s g)) && sound_records (records s g))
