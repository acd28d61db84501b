-- The records of a table in its bytes: 64 bytes each, little-endian, from the front of the buffer.
use Rattle.std.specs.Prelude.{ℕ, ◌+◌, ◌/◌, min, List, ◌++◌}
use Rattle.std.specs.Int.{w64}
use Rattle.std.proofs.Common.{to_z, of_z}
use Rattle.codec.specs.Bytes.{bytes, number_at}
use Rattle.codec.specs.Cells.{cells}
use Rattle.level.specs.declared.SplitTotal.{SplitTotal}
use Rattle.record.specs.declared.Record.{Record}

-- the residue and the carry in the 16 bytes of s from at on; the carry is in two's complement
abbrev pub total_at : List ℕ → ℕ → SplitTotal
total_at s at = record { residue = number_at 8 s at; carry = to_z w64 (number_at 8 s (at + 8)) }

-- the record in the 64 bytes of s from at on
abbrev pub record_at : List ℕ → ℕ → Record
record_at s at = record {
  key = number_at 4 s at;
  count = number_at 4 s (at + 4);
  top = number_at 4 s (at + 8);
  finest = number_at 4 s (at + 12);
  high = total_at s (at + 16);
  middle = total_at s (at + 32);
  low = total_at s (at + 48);
}

-- the record that 64 bytes are
unfoldable pub decode : List ℕ → Record
decode b = record_at b 0

-- the 16 bytes of a residue and a carry
abbrev pub encode_total : SplitTotal → List ℕ
encode_total t = bytes 8 t.residue ++ bytes 8 (of_z w64 t.carry)

-- the 64 bytes of a record
unfoldable pub encode : Record → List ℕ
encode r =
    bytes 4 r.key ++ bytes 4 r.count ++ bytes 4 r.top ++ bytes 4 r.finest
    ++ encode_total r.high ++ encode_total r.middle ++ encode_total r.low

-- the first g records
abbrev pub records : List ℕ → ℕ → List Record
records s g = cells 64 decode g s

-- the most groups that a table can have
abbrev pub most_groups : ℕ
most_groups = 1024

-- document 01's capacity of a buffer of n bytes
abbrev pub capacity : ℕ → ℕ
capacity n = min (n / 64) most_groups
