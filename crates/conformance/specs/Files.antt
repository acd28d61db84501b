-- The calls on a file, as their callers learn them: what the reader, the writer and the report answer and leave.
use Rattle.std.specs.Prelude.{ℕ, ◌*◌, ◌≡◌, length, take, drop}
use Rattle.std.proofs.Math.Option.{some}
use contract.Lifetimes.{Lfts}
use borrow.Fn.Kinds.{Dens, ended_of, res_t}
use denote.Triple.Clauses.{AtExit}
use Rattle.columns.specs.declared.Kind.TheVariants.{Double}
use Rattle.columns.specs.Columns.{width, column_row_count}
use Rattle.refusal.specs.Answer.{outcome_of}
use Rattle.refusal.specs.Outcome.{accepted}
use Rattle.patch.specs.declared.FileRows.{FileRows}
use Rattle.patch.specs.File.{kind_of, file_outcome, key_column, value_column, key_start, value_start}
use Rattle.patch.specs.Serializer.{write_outcome, write_leaves}
use Rattle.report.specs.Text.{report_text}
use Rattle.report.specs.Answer.{print_outcome, print_leaves}
use Rattle.exports.specs.Calls.{returned, returns_count, writes}
use Rattle.exports.specs.Width.{kind_of_width}
use Rattle.conformance.specs.Called.{count_said}
use Rattle.patch.proofs.read.Reads as read_reads
use Rattle.patch.proofs.read.Kinds as read_kinds
use Rattle.patch.proofs.key_start.Reads as key_start_reads
use Rattle.patch.proofs.key_start.Kinds as key_start_kinds
use Rattle.patch.proofs.value_start.Reads as value_start_reads
use Rattle.patch.proofs.value_start.Kinds as value_start_kinds
use Rattle.patch.proofs.write.Reads as write_reads
use Rattle.patch.proofs.write.Kinds as write_kinds
use Rattle.report.proofs.report.Reads as report_reads
use Rattle.report.proofs.report.Kinds as report_kinds
use Rattle.exports.proofs.girth_read.Reads as girth_read_reads
use Rattle.exports.proofs.girth_read.Kinds as girth_read_kinds
use Rattle.exports.proofs.girth_write.Reads as girth_write_reads
use Rattle.exports.proofs.girth_write.Kinds as girth_write_kinds
use Rattle.exports.proofs.girth_report.Reads as girth_report_reads
use Rattle.exports.proofs.girth_report.Kinds as girth_report_kinds

-- a is the file, or the two columns, and after it what is lent for writing, which e has at the end
pub record Files : Type 1 where
  pub of_read : (κs : Lfts 1) (a : Dens κs read_kinds.ps) (z : (res_t read_kinds.r κs).Denot) (e : AtExit (ended_of 1 read_kinds.ps read_kinds.r) κs) → read_reads.Learnt κs a z e
      → outcome_of z ≡ file_outcome a.0.now
  pub of_key_start : (κs : Lfts 1) (a : Dens κs key_start_kinds.ps) (z : (res_t key_start_kinds.r κs).Denot) (e : AtExit (ended_of 1 key_start_kinds.ps key_start_kinds.r) κs) → key_start_reads.Learnt κs a z e
      → let f = a.0.now in z ≡ key_start (kind_of f) f
  pub of_value_start : (κs : Lfts 1) (a : Dens κs value_start_kinds.ps) (z : (res_t value_start_kinds.r κs).Denot) (e : AtExit (ended_of 1 value_start_kinds.ps value_start_kinds.r) κs) → value_start_reads.Learnt κs a z e
      → let f = a.0.now in z ≡ value_start (kind_of f) f
  pub of_girth_read : (κs : Lfts 4) (a : Dens κs girth_read_kinds.ps) (z : (res_t girth_read_kinds.r κs).Denot) (e : AtExit (ended_of 4 girth_read_kinds.ps girth_read_kinds.r) κs) → girth_read_reads.Learnt κs a z e
      → let f = a.0.now in
      (z ≡ returned (λ (x : FileRows). x.count) (file_outcome f)) × (e.1.0.now ≡ key_start (kind_of f) f) × (e.1.1.0.now ≡ value_start (kind_of f) f)
      × (e.1.1.1.0.now ≡ writes 0 (λ (x : FileRows). width x.kind) (file_outcome f))
  -- so the columns of an accepted file stand at these starts, and an add that is told the width takes their values as what they are
  pub columns_there : (κs : Lfts 4) (a : Dens κs girth_read_kinds.ps) (z : (res_t girth_read_kinds.r κs).Denot) (e : AtExit (ended_of 4 girth_read_kinds.ps girth_read_kinds.r) κs) → girth_read_reads.Learnt κs a z e → (n : ℕ) → count_said z ≡ accepted n
      → let f = a.0.now in let w = e.1.1.1.0.now in
      (take (4 * n) (drop e.1.0.now f) ≡ key_column (kind_of f) f) × (take (w * n) (drop e.1.1.0.now f) ≡ value_column (kind_of f) f) × (kind_of_width w ≡ some (kind_of f))
  pub of_write : (κs : Lfts 3) (a : Dens κs write_kinds.ps) (z : (res_t write_kinds.r κs).Denot) (e : AtExit (ended_of 3 write_kinds.ps write_kinds.r) κs) → write_reads.Learnt κs a z e
      → (outcome_of z ≡ write_outcome a.0.now a.1.0.now (length a.1.1.0.now)) × (e.1.1.0.now ≡ write_leaves a.0.now a.1.0.now a.1.1.0.now)
  pub of_girth_write : (κs : Lfts 3) (a : Dens κs girth_write_kinds.ps) (z : (res_t girth_write_kinds.r κs).Denot) (e : AtExit (ended_of 3 girth_write_kinds.ps girth_write_kinds.r) κs) → girth_write_reads.Learnt κs a z e
      → (z ≡ returns_count (write_outcome a.0.now a.1.0.now (length a.1.1.0.now))) × (e.1.1.0.now ≡ write_leaves a.0.now a.1.0.now a.1.1.0.now)
  -- so the first bytes of the output, as many as are answered, are a file of doubles with the same two columns, and the bytes after them are as they were
  pub columns_back : (κs : Lfts 3) (a : Dens κs girth_write_kinds.ps) (z : (res_t girth_write_kinds.r κs).Denot) (e : AtExit (ended_of 3 girth_write_kinds.ps girth_write_kinds.r) κs) → girth_write_reads.Learnt κs a z e → (l : ℕ) → count_said z ≡ accepted l
      → (file_outcome (take l e.1.1.0.now) ≡ accepted (record { count = column_row_count a.0.now; kind = Double })) × (key_column Double (take l e.1.1.0.now) ≡ a.0.now) × (value_column Double (take l e.1.1.0.now) ≡ a.1.0.now)
      × (drop l e.1.1.0.now ≡ drop l a.1.1.0.now)
  pub of_report : (κs : Lfts 2) (a : Dens κs report_kinds.ps) (z : (res_t report_kinds.r κs).Denot) (e : AtExit (ended_of 2 report_kinds.ps report_kinds.r) κs) → report_reads.Learnt κs a z e
      → (outcome_of z ≡ print_outcome a.1.0.now (report_text a.0.now)) × (e.1.0.now ≡ print_leaves a.1.0.now (report_text a.0.now))
  pub of_girth_report : (κs : Lfts 2) (a : Dens κs girth_report_kinds.ps) (z : (res_t girth_report_kinds.r κs).Denot) (e : AtExit (ended_of 2 girth_report_kinds.ps girth_report_kinds.r) κs) → girth_report_reads.Learnt κs a z e
      → (z ≡ returns_count (print_outcome a.1.0.now (report_text a.0.now))) × (e.1.0.now ≡ print_leaves a.1.0.now (report_text a.0.now))
