-- The text of the report, as a definition of the file's bytes.
use Rattle.std.specs.Prelude.{ℕ, ◌*◌, List, [], ◌∷◌, ◌++◌, ℤ, replicate}
use Rattle.std.proofs.Math.Option.{some}
use Rattle.std.specs.Float.{binary64}
use Rattle.std.specs.Float.Ieee.{to_bits}
use Rattle.codec.specs.Cells.{image}
use Rattle.refusal.specs.Outcome.{Outcome, accepted, refused}
use Rattle.columns.specs.declared.Kind.{Kind}
use Rattle.patch.specs.declared.FileRows.{FileRows}
use Rattle.patch.specs.File.{file_outcome, key_column, value_column}
use Rattle.record.specs.Section.{Section}
use Rattle.std.specs.declared.cmp.Ordering.{Ordering}
use Rattle.limbs.specs.Side.{side_number}
use Rattle.finish.specs.declared.FinishedLine.{FinishedLine}
use Rattle.finish.specs.declared.RoundedSum.{RoundedSum}
use Rattle.finish.specs.Finish.{sum_of, figure_of}
use Rattle.table.specs.Calls.{add_outcome, add_sections}
use Rattle.totals.specs.declared.TableTotals.{TableTotals}
use Rattle.totals.specs.Totals.{table_totals}
use Rattle.numerals.specs.Numerals.{decimal, integer, hexadecimal}

-- one space
abbrev pub space : List ℕ
space = 0x20 ∷ []

-- one line feed
abbrev pub line_feed : List ℕ
line_feed = 0x0A ∷ []

-- "refused "
abbrev pub refused_word : List ℕ
refused_word = 0x72 ∷ 0x65 ∷ 0x66 ∷ 0x75 ∷ 0x73 ∷ 0x65 ∷ 0x64 ∷ 0x20 ∷ []

-- "total "
abbrev pub total_word : List ℕ
total_word = 0x74 ∷ 0x6F ∷ 0x74 ∷ 0x61 ∷ 0x6C ∷ 0x20 ∷ []

-- "section rows bits hundredths side" and a line feed
unfoldable pub head_line : List ℕ
head_line =
    0x73 ∷ 0x65 ∷ 0x63 ∷ 0x74 ∷ 0x69 ∷ 0x6F ∷ 0x6E ∷ 0x20
    ∷ 0x72 ∷ 0x6F ∷ 0x77 ∷ 0x73 ∷ 0x20
    ∷ 0x62 ∷ 0x69 ∷ 0x74 ∷ 0x73 ∷ 0x20
    ∷ 0x68 ∷ 0x75 ∷ 0x6E ∷ 0x64 ∷ 0x72 ∷ 0x65 ∷ 0x64 ∷ 0x74 ∷ 0x68 ∷ 0x73 ∷ 0x20
    ∷ 0x73 ∷ 0x69 ∷ 0x64 ∷ 0x65 ∷ 0x0A ∷ []

-- "refused" and a refusal's number
unfoldable pub refusal_text : ℕ → List ℕ
refusal_text n = refused_word ++ decimal n

-- the mill figure and the sum's side; a figure refused takes the place of both
unfoldable pub figure_fields : Outcome ℤ → Ordering → List ℕ
figure_fields (accepted z) d = integer z ++ space ++ integer (side_number d)
figure_fields (refused n) d = refusal_text n

-- the sum's 64 bits, the mill figure and the side; a sum refused takes the place of all
unfoldable pub last_fields : Outcome RoundedSum → Outcome ℤ → List ℕ
last_fields (accepted x) f = hexadecimal (to_bits binary64 x.sum) ++ space ++ figure_fields f x.side
last_fields (refused n) f = refusal_text n

-- a line of section, row count and what follows them
unfoldable pub line_with : ℕ → ℕ → List ℕ → List ℕ
line_with key count fields = decimal key ++ space ++ decimal count ++ space ++ fields ++ line_feed

-- a finished line
abbrev pub finished_text : FinishedLine → List ℕ
finished_text l = line_with l.key l.count (last_fields (accepted (record { sum = l.sum; side = l.side })) (accepted l.figure))

-- a section's line
unfoldable pub line_text : Section → List ℕ
line_text s = line_with s.key s.count (last_fields (sum_of (some s)) (figure_of (some s)))

-- "total", the number of sections, the number of rows, and a line feed
unfoldable pub total_line : TableTotals → List ℕ
total_line t = total_word ++ decimal t.groups ++ space ++ decimal t.count ++ line_feed

-- the head line, a line for each section, and the total line
unfoldable pub table_text : List Section → List ℕ
table_text ts = head_line ++ image line_text ts ++ total_line (table_totals ts)

-- how many groups the report's table has room for
abbrev pub table_groups : ℕ
table_groups = 64

-- the bytes of that table, and of its work buffer
abbrev pub table_bytes : ℕ
table_bytes = table_groups * 64

-- an empty table
abbrev pub empty_table : List ℕ
empty_table = replicate table_bytes 0

-- what the add of two columns prints: only its refusal, or the text of the table, the keys rising
unfoldable pub add_text : Outcome ℕ → List Section → List ℕ
add_text (accepted g) ts = table_text ts
add_text (refused n) ts = refusal_text n ++ line_feed

-- what the add of two columns to an empty table prints
unfoldable pub columns_text : Kind → List ℕ → List ℕ → List ℕ
columns_text kind ks vs = add_text (add_outcome kind empty_table 0 ks vs table_bytes) (add_sections kind empty_table 0 ks vs)

-- what a file prints: only its refusal, or what the add of its columns prints
unfoldable pub file_text : Outcome FileRows → List ℕ → List ℕ
file_text (accepted r) f = columns_text r.kind (key_column r.kind f) (value_column r.kind f)
file_text (refused n) f = refusal_text n ++ line_feed

-- the report of a file
unfoldable pub report_text : List ℕ → List ℕ
report_text f = file_text (file_outcome f) f
