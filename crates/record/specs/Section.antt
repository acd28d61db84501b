-- What a record means: a section's row count, its top, its finest power and the totals of its three levels as whole numbers.
use Rattle.std.specs.Prelude.{ℕ, ◌-◌, ◌*◌, cond, List, [], ◌∷◌, ◌++◌, map, eqb, ℤ, pos, ◌+ℤ◌, ◌*ℤ◌, length, drop}
use Rattle.std.proofs.Math.Option.{Option, none, some}
use Rattle.codec.specs.Cells.{image}
use Rattle.level.specs.Level.{unit, below, top_of, total}
use Rattle.level.specs.Finest.{finest_of}
use Rattle.level.specs.Carry.{split_of, total_of}
use Rattle.record.specs.declared.Record.{Record}
use Rattle.record.specs.Layout.{records, encode}

-- document 01's section: high, middle and low are the totals of the levels top, top - 1 and top - 2
pub record Section : Type 0 where
  pub key : ℕ
  pub count : ℕ
  pub top : ℕ
  pub finest : ℕ
  pub high : ℤ
  pub middle : ℤ
  pub low : ℤ

-- the section that a record stands for
abbrev pub meaning : Record → Section
meaning r = record {
  key = r.key;
  count = r.count;
  top = r.top;
  finest = r.finest;
  high = total_of r.high;
  middle = total_of r.middle;
  low = total_of r.low;
}

-- the record of a section
abbrev pub record_of : Section → Record
record_of s = record {
  key = s.key;
  count = s.count;
  top = s.top;
  finest = s.finest;
  high = split_of s.high;
  middle = split_of s.middle;
  low = split_of s.low;
}

-- the sections of a table of g records in the bytes s
abbrev pub sections : List ℕ → ℕ → List Section
sections s g = map meaning (records s g)

-- the bytes of sections
abbrev pub section_bytes : List Section → List ℕ
section_bytes ts = image (λ (t : Section). encode (record_of t)) ts

-- the bytes s with the records of these sections at their front; the bytes after them as they were
abbrev pub written : List Section → List ℕ → List ℕ
written ts s = section_bytes ts ++ drop (64 * length ts) s

-- the section with the number k, where there is one
unfoldable pub find : ℕ → List Section → Option Section
find k [] = none
find k (t ∷ ts) = cond (eqb k t.key) (some t) (find k ts)

-- the section with the three levels that the family f of totals has at top t, and with the finest power z; a level below 0 holds 0
abbrev pub section_at : ℕ → ℕ → ℕ → ℕ → (ℕ → ℤ) → Section
section_at k n t z f = record { key = k; count = n; top = t; finest = z; high = below f t 0; middle = below f t 1; low = below f t 2 }

-- section k of rows with the bits bs, held at top t: their number, t, their finest power, and the sums of their contributions to the levels t, t - 1 and t - 2
unfoldable pub section_at_top : ℕ → ℕ → List ℕ → Section
section_at_top k t bs = section_at k (length bs) t (finest_of bs) (total bs)

-- section k of rows with the bits bs: it is held at their largest top
abbrev pub section_of : ℕ → List ℕ → Section
section_of k bs = section_at_top k (top_of bs) bs

-- document 01's kept value, in units of 2^-1074: the three totals, each times its unit
unfoldable pub kept : Section → ℤ
kept s = s.high *ℤ pos (unit s.top) +ℤ s.middle *ℤ pos (unit (s.top - 1)) +ℤ s.low *ℤ pos (unit (s.top - 2))
