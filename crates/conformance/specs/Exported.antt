-- What an exported finishing, and the exported totals, return and write out, as their callers learn it: 0 and the values of an accepted call, minus the number and zeros
-- of a refused one. The question whether a kept value is known to be exact writes nothing out: it returns 1, 0, or minus the number.
use Rattle.std.specs.Prelude.{◌≡◌, ℤ, pos}
use contract.Lifetimes.{Lfts}
use borrow.Fn.Kinds.{Dens, ended_of, res_t}
use denote.Triple.Clauses.{AtExit}
use Rattle.finish.specs.declared.FinishedLine.{FinishedLine}
use Rattle.limbs.specs.Side.{side_number}
use Rattle.finish.specs.declared.RoundedSum.{RoundedSum}
use Rattle.finish.specs.Finish.{sum_outcome, figure_outcome, line_outcome}
use Rattle.finish.specs.Exact.{exactness_outcome}
use Rattle.totals.specs.declared.TableTotals.{TableTotals}
use Rattle.totals.specs.Totals.{totals_outcome}
use Rattle.exports.specs.Calls.{returns_zero, returns_flag, writes, double_bits}
use Rattle.exports.proofs.girth_sum.Reads as girth_sum_reads
use Rattle.exports.proofs.girth_sum.Kinds as girth_sum_kinds
use Rattle.exports.proofs.girth_figure.Reads as girth_figure_reads
use Rattle.exports.proofs.girth_figure.Kinds as girth_figure_kinds
use Rattle.exports.proofs.girth_line.Reads as girth_line_reads
use Rattle.exports.proofs.girth_line.Kinds as girth_line_kinds
use Rattle.exports.proofs.girth_exact.Reads as girth_exact_reads
use Rattle.exports.proofs.girth_exact.Kinds as girth_exact_kinds
use Rattle.exports.proofs.girth_totals.Reads as girth_totals_reads
use Rattle.exports.proofs.girth_totals.Kinds as girth_totals_kinds

-- a has the table and its group count, for a finishing then the section number, and last what is lent for writing; e has the same at the end
pub record Exported : Type 1 where
  pub of_girth_sum : (κs : Lfts 3) (a : Dens κs girth_sum_kinds.ps) (z : (res_t girth_sum_kinds.r κs).Denot) (e : AtExit (ended_of 3 girth_sum_kinds.ps girth_sum_kinds.r) κs) → girth_sum_reads.Learnt κs a z e
      → let o = sum_outcome a.0.now a.1.0 a.1.1.0 in
      (z ≡ returns_zero o) × (e.1.1.1.0.now ≡ writes 0 (λ (x : RoundedSum). double_bits x.sum) o)
      × (e.1.1.1.1.0.now ≡ writes (pos 0) (λ (x : RoundedSum). side_number x.side) o)
  pub of_girth_figure : (κs : Lfts 2) (a : Dens κs girth_figure_kinds.ps) (z : (res_t girth_figure_kinds.r κs).Denot) (e : AtExit (ended_of 2 girth_figure_kinds.ps girth_figure_kinds.r) κs) → girth_figure_reads.Learnt κs a z e
      → let o = figure_outcome a.0.now a.1.0 a.1.1.0 in
      (z ≡ returns_zero o) × (e.1.1.1.0.now ≡ writes (pos 0) (λ (f : ℤ). f) o)
  pub of_girth_line : (κs : Lfts 5) (a : Dens κs girth_line_kinds.ps) (z : (res_t girth_line_kinds.r κs).Denot) (e : AtExit (ended_of 5 girth_line_kinds.ps girth_line_kinds.r) κs) → girth_line_reads.Learnt κs a z e
      → let o = line_outcome a.0.now a.1.0 a.1.1.0 in
      (z ≡ returns_zero o) × (e.1.1.1.0.now ≡ writes 0 (λ (l : FinishedLine). l.count) o)
      × (e.1.1.1.1.0.now ≡ writes 0 (λ (l : FinishedLine). double_bits l.sum) o)
      × (e.1.1.1.1.1.0.now ≡ writes (pos 0) (λ (l : FinishedLine). l.figure) o)
      × (e.1.1.1.1.1.1.0.now ≡ writes (pos 0) (λ (l : FinishedLine). side_number l.side) o)
  pub of_girth_exact : (κs : Lfts 1) (a : Dens κs girth_exact_kinds.ps) (z : (res_t girth_exact_kinds.r κs).Denot) (e : AtExit (ended_of 1 girth_exact_kinds.ps girth_exact_kinds.r) κs) → girth_exact_reads.Learnt κs a z e
      → z ≡ returns_flag (exactness_outcome a.0.now a.1.0 a.1.1.0)
  pub of_girth_totals : (κs : Lfts 3) (a : Dens κs girth_totals_kinds.ps) (z : (res_t girth_totals_kinds.r κs).Denot) (e : AtExit (ended_of 3 girth_totals_kinds.ps girth_totals_kinds.r) κs) → girth_totals_reads.Learnt κs a z e
      → let o = totals_outcome a.0.now a.1.0 in
      (z ≡ returns_zero o) × (e.1.1.0.now ≡ writes 0 (λ (t : TableTotals). t.groups) o) × (e.1.1.1.0.now ≡ writes 0 (λ (t : TableTotals). t.count) o)
