-- The report of a file by its rows: what the exported call writes, what the total line says, and what a refused file or add prints.
use Rattle.std.specs.Prelude.{ℕ, ◌≡◌, List, ◌++◌, length, take}
use contract.Lifetimes.{Lfts}
use borrow.Fn.Kinds.{Dens, ended_of, res_t}
use denote.Triple.Clauses.{AtExit}
use Rattle.codec.specs.Cells.{image}
use Rattle.refusal.specs.Outcome.{Outcome, accepted, refused}
use Rattle.columns.specs.Columns.{Row, rows_of}
use Rattle.patch.specs.declared.FileRows.{FileRows}
use Rattle.patch.specs.File.{kind_of, file_outcome, key_column, value_column}
use Rattle.table.specs.Calls.{add_outcome}
use Rattle.report.specs.Text.{head_line, refusal_text, line_feed, line_text, total_line, table_bytes, empty_table, report_text}
use Rattle.history.specs.Rows.{rows_totals}
use Rattle.history.specs.Canonical.{canonical}
use Rattle.conformance.specs.Called.{count_said}
use Rattle.exports.proofs.girth_report.Reads as girth_report_reads
use Rattle.exports.proofs.girth_report.Kinds as girth_report_kinds

-- the rows of a file, read as one of the kind that its mark says
abbrev pub rows_in : List ℕ → List Row
rows_in f = rows_of (kind_of f) (key_column (kind_of f) f) (value_column (kind_of f) f)

-- the add of a file's columns to the report's table
abbrev pub add_of : List ℕ → Outcome ℕ
add_of f = add_outcome (kind_of f) empty_table 0 (key_column (kind_of f) f) (value_column (kind_of f) f) table_bytes

-- the report of every file
pub record Reported : Type 1 where
  -- the answer is the length of the report's text, and so many first bytes of the output are this text; a has the file and the output, e the same at the end
  pub text_written : (κs : Lfts 2) (a : Dens κs girth_report_kinds.ps) (z : (res_t girth_report_kinds.r κs).Denot) (e : AtExit (ended_of 2 girth_report_kinds.ps girth_report_kinds.r) κs) → girth_report_reads.Learnt κs a z e → (l : ℕ) → count_said z ≡ accepted l
      → (length (report_text a.0.now) ≡ l) × (take l e.1.0.now ≡ report_text a.0.now)
  -- of a file that is read with some rows, and whose add is accepted: the head line, the lines of the sections that document 01 fixes for its rows, and a total line with
  -- the number of distinct sections of these rows and of the rows, which is what was read
  pub of_rows : (f : List ℕ) (r : FileRows) (g : ℕ) → file_outcome f ≡ accepted r → add_of f ≡ accepted g
      → (report_text f ≡ head_line ++ image line_text (canonical (rows_in f)) ++ total_line (rows_totals (rows_in f))) × (length (rows_in f) ≡ r.count)
  -- of a file without rows
  pub of_no_rows : (f : List ℕ) (r : FileRows) → file_outcome f ≡ accepted r → r.count ≡ 0 → report_text f ≡ head_line ++ total_line (record { groups = 0; count = 0 })
  -- a refused file prints its refusal, and no total; so does a refused add
  pub of_refused_file : (f : List ℕ) (n : ℕ) → file_outcome f ≡ refused n → report_text f ≡ refusal_text n ++ line_feed
  pub of_refused_add : (f : List ℕ) (r : FileRows) (n : ℕ) → file_outcome f ≡ accepted r → add_of f ≡ refused n → report_text f ≡ refusal_text n ++ line_feed
