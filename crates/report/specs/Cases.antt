-- Worked examples, computed from the definitions: document 01's report, refusals in a line and of a file.
use Rattle.std.specs.Prelude.{ℕ, ◌≡◌, refl, List, [], ◌∷◌, map}
use Rattle.std.specs.Float.Ieee.{round, to_bits, of_bits}
use Rattle.codec.specs.Bytes.{number, bytes, number_at}
use Rattle.codec.specs.Cells.{cells, image}
use Rattle.level.specs.Level.{top, top_from, given, contribution}
use Rattle.patch.specs.Cases.{report_input}
use Rattle.trailer.specs.Trailer.{trailer_of}
use Rattle.patch.specs.Serializer.{file_of}
use Rattle.patch.specs.File.{marked, kind_of, outside, overlap, read_grounds, read_outcome, column, key_column, value_column}
use Rattle.single.specs.Single.{widened}
use Rattle.columns.specs.declared.Kind.TheVariants.{Double, Single}
use Rattle.columns.specs.Columns.{width, rows_from, rows_of, columns_fit}
use Rattle.record.specs.Keys.{rising}
use Rattle.record.specs.Sound.{sound, sound_records}
use Rattle.record.specs.Section.{kept}
use Rattle.finish.specs.Sum.{nearest_double, too_large}
use Rattle.finish.specs.Side.{side}
use Rattle.finish.specs.Figure.{mill_figure, beyond}
use Rattle.table.specs.Combine.{of_row, level_of, combine, absorb, added}
use Rattle.table.specs.Calls.{add_grounds, column_grounds}
use Rattle.totals.specs.Totals.{row_total}
use Rattle.lists.specs.Lists.{any_of}
use Rattle.numerals.specs.Numerals.{digit, digits, decimal_in, decimal, integer}
use Rattle.report.specs.Text.{head_line, refusal_text, figure_fields, last_fields, line_with, line_text, total_line, table_text, add_text, columns_text, file_text, report_text}

-- the file of rows with these section numbers and these bits
rows_file : List ℕ → List ℕ → List ℕ
rows_file ks vs = file_of Double (image (bytes 4) ks) (image (bytes (width Double)) vs)

-- the same with short floats
short_rows_file : List ℕ → List ℕ → List ℕ
short_rows_file ks vs = file_of Single (image (bytes 4) ks) (image (bytes (width Single)) vs)

-- the report of document 01's input, and of its rows in short floats
sample_text : List ℕ
sample_text =
    -- section rows bits hundredths side
    0x73 ∷ 0x65 ∷ 0x63 ∷ 0x74 ∷ 0x69 ∷ 0x6F ∷ 0x6E ∷ 0x20 ∷ 0x72 ∷ 0x6F ∷ 0x77 ∷ 0x73 ∷ 0x20 ∷ 0x62 ∷ 0x69 ∷ 0x74 ∷ 0x73 ∷ 0x20 ∷ 0x68 ∷ 0x75 ∷ 0x6E ∷ 0x64 ∷ 0x72 ∷ 0x65 ∷ 0x64 ∷ 0x74 ∷ 0x68 ∷ 0x73 ∷ 0x20 ∷ 0x73 ∷ 0x69 ∷ 0x64 ∷ 0x65 ∷ 0x0A
    -- 1 2 3FF8000000000000 150 0
    ∷ 0x31 ∷ 0x20 ∷ 0x32 ∷ 0x20 ∷ 0x33 ∷ 0x46 ∷ 0x46 ∷ 0x38 ∷ 0x30 ∷ 0x30 ∷ 0x30 ∷ 0x30 ∷ 0x30 ∷ 0x30 ∷ 0x30 ∷ 0x30 ∷ 0x30 ∷ 0x30 ∷ 0x30 ∷ 0x30 ∷ 0x20 ∷ 0x31 ∷ 0x35 ∷ 0x30 ∷ 0x20 ∷ 0x30 ∷ 0x0A
    -- 2 1 3FC0000000000000 13 0
    ∷ 0x32 ∷ 0x20 ∷ 0x31 ∷ 0x20 ∷ 0x33 ∷ 0x46 ∷ 0x43 ∷ 0x30 ∷ 0x30 ∷ 0x30 ∷ 0x30 ∷ 0x30 ∷ 0x30 ∷ 0x30 ∷ 0x30 ∷ 0x30 ∷ 0x30 ∷ 0x30 ∷ 0x30 ∷ 0x30 ∷ 0x20 ∷ 0x31 ∷ 0x33 ∷ 0x20 ∷ 0x30 ∷ 0x0A
    -- total 2 3
    ∷ 0x74 ∷ 0x6F ∷ 0x74 ∷ 0x61 ∷ 0x6C ∷ 0x20 ∷ 0x32 ∷ 0x20 ∷ 0x33 ∷ 0x0A
    ∷ []

-- section 5 with two rows 7FEFFFFFFFFFFFFF, section 4294967295 with the row 21474836.5, section 1 with the last double below 2 and half a unit of it,
-- and section 0 with -0.25 and less than half a unit of it taken off, the keys falling
mixed : List ℕ
mixed =
    rows_file (4294967295 ∷ 5 ∷ 5 ∷ 1 ∷ 1 ∷ 0 ∷ 0 ∷ [])
    (0x41747AE148000000 ∷ 0x7FEFFFFFFFFFFFFF ∷ 0x7FEFFFFFFFFFFFFF ∷ 0x3FFFFFFFFFFFFFFF ∷ 0x3CA0000000000000 ∷ 0xBFD0000000000000 ∷ 0x3C00000000000000 ∷ [])

-- a negative figure with a sum below its kept value, a sum above it, a sum refused and a figure refused; refused lines count in the totals
mixed_text : List ℕ
mixed_text =
    -- section rows bits hundredths side
    0x73 ∷ 0x65 ∷ 0x63 ∷ 0x74 ∷ 0x69 ∷ 0x6F ∷ 0x6E ∷ 0x20 ∷ 0x72 ∷ 0x6F ∷ 0x77 ∷ 0x73 ∷ 0x20 ∷ 0x62 ∷ 0x69 ∷ 0x74 ∷ 0x73 ∷ 0x20 ∷ 0x68 ∷ 0x75 ∷ 0x6E ∷ 0x64 ∷ 0x72 ∷ 0x65 ∷ 0x64 ∷ 0x74 ∷ 0x68 ∷ 0x73 ∷ 0x20 ∷ 0x73 ∷ 0x69 ∷ 0x64 ∷ 0x65 ∷ 0x0A
    -- 0 2 BFD0000000000000 -25 -1
    ∷ 0x30 ∷ 0x20 ∷ 0x32 ∷ 0x20 ∷ 0x42 ∷ 0x46 ∷ 0x44 ∷ 0x30 ∷ 0x30 ∷ 0x30 ∷ 0x30 ∷ 0x30 ∷ 0x30 ∷ 0x30 ∷ 0x30 ∷ 0x30 ∷ 0x30 ∷ 0x30 ∷ 0x30 ∷ 0x30 ∷ 0x20 ∷ 0x2D ∷ 0x32 ∷ 0x35 ∷ 0x20 ∷ 0x2D ∷ 0x31 ∷ 0x0A
    -- 1 2 4000000000000000 200 1
    ∷ 0x31 ∷ 0x20 ∷ 0x32 ∷ 0x20 ∷ 0x34 ∷ 0x30 ∷ 0x30 ∷ 0x30 ∷ 0x30 ∷ 0x30 ∷ 0x30 ∷ 0x30 ∷ 0x30 ∷ 0x30 ∷ 0x30 ∷ 0x30 ∷ 0x30 ∷ 0x30 ∷ 0x30 ∷ 0x30 ∷ 0x20 ∷ 0x32 ∷ 0x30 ∷ 0x30 ∷ 0x20 ∷ 0x31 ∷ 0x0A
    -- 5 2 refused 14
    ∷ 0x35 ∷ 0x20 ∷ 0x32 ∷ 0x20 ∷ 0x72 ∷ 0x65 ∷ 0x66 ∷ 0x75 ∷ 0x73 ∷ 0x65 ∷ 0x64 ∷ 0x20 ∷ 0x31 ∷ 0x34 ∷ 0x0A
    -- 4294967295 1 41747AE148000000 refused 15
    ∷ 0x34 ∷ 0x32 ∷ 0x39 ∷ 0x34 ∷ 0x39 ∷ 0x36 ∷ 0x37 ∷ 0x32 ∷ 0x39 ∷ 0x35 ∷ 0x20 ∷ 0x31 ∷ 0x20 ∷ 0x34 ∷ 0x31 ∷ 0x37 ∷ 0x34 ∷ 0x37 ∷ 0x41 ∷ 0x45 ∷ 0x31 ∷ 0x34 ∷ 0x38 ∷ 0x30 ∷ 0x30 ∷ 0x30 ∷ 0x30 ∷ 0x30 ∷ 0x30 ∷ 0x20 ∷ 0x72 ∷ 0x65 ∷ 0x66 ∷ 0x75 ∷ 0x73 ∷ 0x65 ∷ 0x64 ∷ 0x20 ∷ 0x31 ∷ 0x35 ∷ 0x0A
    -- total 4 7
    ∷ 0x74 ∷ 0x6F ∷ 0x74 ∷ 0x61 ∷ 0x6C ∷ 0x20 ∷ 0x34 ∷ 0x20 ∷ 0x37 ∷ 0x0A
    ∷ []

-- no rows, in doubles or in short floats
text_without_rows : List ℕ
text_without_rows =
    -- section rows bits hundredths side
    0x73 ∷ 0x65 ∷ 0x63 ∷ 0x74 ∷ 0x69 ∷ 0x6F ∷ 0x6E ∷ 0x20 ∷ 0x72 ∷ 0x6F ∷ 0x77 ∷ 0x73 ∷ 0x20 ∷ 0x62 ∷ 0x69 ∷ 0x74 ∷ 0x73 ∷ 0x20 ∷ 0x68 ∷ 0x75 ∷ 0x6E ∷ 0x64 ∷ 0x72 ∷ 0x65 ∷ 0x64 ∷ 0x74 ∷ 0x68 ∷ 0x73 ∷ 0x20 ∷ 0x73 ∷ 0x69 ∷ 0x64 ∷ 0x65 ∷ 0x0A
    -- total 0 0
    ∷ 0x74 ∷ 0x6F ∷ 0x74 ∷ 0x61 ∷ 0x6C ∷ 0x20 ∷ 0x30 ∷ 0x20 ∷ 0x30 ∷ 0x0A
    ∷ []

-- an empty file
refused_text : List ℕ
refused_text =
    -- refused 2
    0x72 ∷ 0x65 ∷ 0x66 ∷ 0x75 ∷ 0x73 ∷ 0x65 ∷ 0x64 ∷ 0x20 ∷ 0x32 ∷ 0x0A
    ∷ []

-- a row that is infinite, in doubles or in short floats
infinite_text : List ℕ
infinite_text =
    -- refused 10
    0x72 ∷ 0x65 ∷ 0x66 ∷ 0x75 ∷ 0x73 ∷ 0x65 ∷ 0x64 ∷ 0x20 ∷ 0x31 ∷ 0x30 ∷ 0x0A
    ∷ []

reports : map report_text (report_input ∷ short_rows_file (1 ∷ 2 ∷ 1 ∷ []) (0x3F800000 ∷ 0x3E000000 ∷ 0x3F000000 ∷ []) ∷ mixed ∷ rows_file [] [] ∷ short_rows_file [] [] ∷ [] ∷ rows_file (1 ∷ []) (0x7FF0000000000000 ∷ []) ∷ short_rows_file (1 ∷ []) (0x7F800000 ∷ []) ∷ [])
    ≡ sample_text ∷ sample_text ∷ mixed_text ∷ text_without_rows ∷ text_without_rows ∷ refused_text ∷ infinite_text ∷ infinite_text ∷ []
unfolding report_input sample_text trailer_of file_of rows_file short_rows_file mixed mixed_text text_without_rows refused_text infinite_text report_text file_text columns_text add_text table_text total_line row_total line_text line_with last_fields figure_fields refusal_text head_line decimal decimal_in digit digits integer number bytes number_at cells image marked kind_of outside overlap read_grounds read_outcome column key_column value_column rows_from rows_of columns_fit add_grounds column_grounds any_of of_row level_of combine absorb added top top_from given contribution rising sound sound_records kept nearest_double too_large side mill_figure beyond round widened to_bits of_bits
reports = refl
