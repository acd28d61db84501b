-- The public calls ask nothing of their callers: `Asked` is what a call requires, and it holds of all arguments.
use contract.Lifetimes.{Lfts}
use borrow.Fn.Kinds.{Dens}
use Rattle.patch.proofs.read.Reads as read_reads
use Rattle.patch.proofs.read.Kinds as read_kinds
use Rattle.patch.proofs.keys.Reads as keys_reads
use Rattle.patch.proofs.keys.Kinds as keys_kinds
use Rattle.patch.proofs.values.Reads as values_reads
use Rattle.patch.proofs.values.Kinds as values_kinds
use Rattle.patch.proofs.key_start.Reads as key_start_reads
use Rattle.patch.proofs.key_start.Kinds as key_start_kinds
use Rattle.patch.proofs.value_start.Reads as value_start_reads
use Rattle.patch.proofs.value_start.Kinds as value_start_kinds
use Rattle.patch.proofs.write.Reads as write_reads
use Rattle.patch.proofs.write.Kinds as write_kinds
use Rattle.add.proofs.add.Reads as add_reads
use Rattle.add.proofs.add.Kinds as add_kinds
use Rattle.remove.proofs.remove.Reads as remove_reads
use Rattle.remove.proofs.remove.Kinds as remove_kinds
use Rattle.merge.proofs.merge.Reads as merge_reads
use Rattle.merge.proofs.merge.Kinds as merge_kinds
use Rattle.finish.proofs.sum.Reads as sum_reads
use Rattle.finish.proofs.sum.Kinds as sum_kinds
use Rattle.finish.proofs.figure.Reads as figure_reads
use Rattle.finish.proofs.figure.Kinds as figure_kinds
use Rattle.finish.proofs.line.Reads as line_reads
use Rattle.finish.proofs.line.Kinds as line_kinds
use Rattle.finish.proofs.exactness.Reads as exactness_reads
use Rattle.finish.proofs.exactness.Kinds as exactness_kinds
use Rattle.totals.proofs.totals.Reads as totals_reads
use Rattle.totals.proofs.totals.Kinds as totals_kinds
use Rattle.checkpoint.proofs.save.Reads as save_reads
use Rattle.checkpoint.proofs.save.Kinds as save_kinds
use Rattle.checkpoint.proofs.load.Reads as load_reads
use Rattle.checkpoint.proofs.load.Kinds as load_kinds
use Rattle.report.proofs.report.Reads as report_reads
use Rattle.report.proofs.report.Kinds as report_kinds
use Rattle.exports.proofs.girth_read.Reads as girth_read_reads
use Rattle.exports.proofs.girth_read.Kinds as girth_read_kinds
use Rattle.exports.proofs.girth_add.Reads as girth_add_reads
use Rattle.exports.proofs.girth_add.Kinds as girth_add_kinds
use Rattle.exports.proofs.girth_remove.Reads as girth_remove_reads
use Rattle.exports.proofs.girth_remove.Kinds as girth_remove_kinds
use Rattle.exports.proofs.girth_merge.Reads as girth_merge_reads
use Rattle.exports.proofs.girth_merge.Kinds as girth_merge_kinds
use Rattle.exports.proofs.girth_sum.Reads as girth_sum_reads
use Rattle.exports.proofs.girth_sum.Kinds as girth_sum_kinds
use Rattle.exports.proofs.girth_figure.Reads as girth_figure_reads
use Rattle.exports.proofs.girth_figure.Kinds as girth_figure_kinds
use Rattle.exports.proofs.girth_line.Reads as girth_line_reads
use Rattle.exports.proofs.girth_line.Kinds as girth_line_kinds
use Rattle.exports.proofs.girth_exact.Reads as girth_exact_reads
use Rattle.exports.proofs.girth_exact.Kinds as girth_exact_kinds
use Rattle.exports.proofs.girth_totals.Reads as girth_totals_reads
use Rattle.exports.proofs.girth_totals.Kinds as girth_totals_kinds
use Rattle.exports.proofs.girth_write.Reads as girth_write_reads
use Rattle.exports.proofs.girth_write.Kinds as girth_write_kinds
use Rattle.exports.proofs.girth_save.Reads as girth_save_reads
use Rattle.exports.proofs.girth_save.Kinds as girth_save_kinds
use Rattle.exports.proofs.girth_load.Reads as girth_load_reads
use Rattle.exports.proofs.girth_load.Kinds as girth_load_kinds
use Rattle.exports.proofs.girth_report.Reads as girth_report_reads
use Rattle.exports.proofs.girth_report.Kinds as girth_report_kinds

-- one line for each call: whatever the lifetimes κs and the arguments a, nothing is asked
pub record AsksNothing : Type 1 where
  pub of_read : (κs : Lfts 1) (a : Dens κs read_kinds.ps) → read_reads.Asked κs a
  pub of_keys : (κs : Lfts 1) (a : Dens κs keys_kinds.ps) → keys_reads.Asked κs a
  pub of_values : (κs : Lfts 1) (a : Dens κs values_kinds.ps) → values_reads.Asked κs a
  pub of_key_start : (κs : Lfts 1) (a : Dens κs key_start_kinds.ps) → key_start_reads.Asked κs a
  pub of_value_start : (κs : Lfts 1) (a : Dens κs value_start_kinds.ps) → value_start_reads.Asked κs a
  pub of_write : (κs : Lfts 3) (a : Dens κs write_kinds.ps) → write_reads.Asked κs a
  pub of_add : (κs : Lfts 4) (a : Dens κs add_kinds.ps) → add_reads.Asked κs a
  pub of_remove : (κs : Lfts 4) (a : Dens κs remove_kinds.ps) → remove_reads.Asked κs a
  pub of_merge : (κs : Lfts 2) (a : Dens κs merge_kinds.ps) → merge_reads.Asked κs a
  pub of_sum : (κs : Lfts 1) (a : Dens κs sum_kinds.ps) → sum_reads.Asked κs a
  pub of_figure : (κs : Lfts 1) (a : Dens κs figure_kinds.ps) → figure_reads.Asked κs a
  pub of_line : (κs : Lfts 1) (a : Dens κs line_kinds.ps) → line_reads.Asked κs a
  pub of_exactness : (κs : Lfts 1) (a : Dens κs exactness_kinds.ps) → exactness_reads.Asked κs a
  pub of_totals : (κs : Lfts 1) (a : Dens κs totals_kinds.ps) → totals_reads.Asked κs a
  pub of_save : (κs : Lfts 2) (a : Dens κs save_kinds.ps) → save_reads.Asked κs a
  pub of_load : (κs : Lfts 2) (a : Dens κs load_kinds.ps) → load_reads.Asked κs a
  pub of_report : (κs : Lfts 2) (a : Dens κs report_kinds.ps) → report_reads.Asked κs a
  pub of_girth_read : (κs : Lfts 4) (a : Dens κs girth_read_kinds.ps) → girth_read_reads.Asked κs a
  pub of_girth_add : (κs : Lfts 4) (a : Dens κs girth_add_kinds.ps) → girth_add_reads.Asked κs a
  pub of_girth_remove : (κs : Lfts 4) (a : Dens κs girth_remove_kinds.ps) → girth_remove_reads.Asked κs a
  pub of_girth_merge : (κs : Lfts 2) (a : Dens κs girth_merge_kinds.ps) → girth_merge_reads.Asked κs a
  pub of_girth_sum : (κs : Lfts 3) (a : Dens κs girth_sum_kinds.ps) → girth_sum_reads.Asked κs a
  pub of_girth_figure : (κs : Lfts 2) (a : Dens κs girth_figure_kinds.ps) → girth_figure_reads.Asked κs a
  pub of_girth_line : (κs : Lfts 5) (a : Dens κs girth_line_kinds.ps) → girth_line_reads.Asked κs a
  pub of_girth_exact : (κs : Lfts 1) (a : Dens κs girth_exact_kinds.ps) → girth_exact_reads.Asked κs a
  pub of_girth_totals : (κs : Lfts 3) (a : Dens κs girth_totals_kinds.ps) → girth_totals_reads.Asked κs a
  pub of_girth_write : (κs : Lfts 3) (a : Dens κs girth_write_kinds.ps) → girth_write_reads.Asked κs a
  pub of_girth_save : (κs : Lfts 2) (a : Dens κs girth_save_kinds.ps) → girth_save_reads.Asked κs a
  pub of_girth_load : (κs : Lfts 2) (a : Dens κs girth_load_kinds.ps) → girth_load_reads.Asked κs a
  pub of_girth_report : (κs : Lfts 2) (a : Dens κs girth_report_kinds.ps) → girth_report_reads.Asked κs a
