-- Calls by their contracts, as callers learn them: in a state whose tables are lent, what each of them answers and the state that it leaves. A contract is
-- `Learnt`, of the arguments a, the result z and what was lent, e, at the call's end.
use Rattle.std.specs.Prelude.{ℕ, zero, suc, ◌≡◌, Bool, true, false, not, List, [], ◌∷◌, T, eqb, ℤ, pos, negsuc, length, take}
use Rattle.std.proofs.Math.Option.{some, none}
use Rattle.std.specs.Float.{binary64}
use Rattle.std.specs.Float.Ieee.{of_bits}
use Rattle.std.proofs.Math.Pow.{are_bytes}
use contract.Lifetimes.{Lfts}
use borrow.Fn.Kinds.{Dens, ended_of, res_t}
use denote.Triple.Clauses.{AtExit}
use Rattle.refusal.specs.Outcome.{Outcome, accepted, refused}
use Rattle.limbs.specs.Side.{side_said}
use Rattle.columns.specs.declared.Kind.{Kind}
use Rattle.columns.specs.declared.Kind.TheVariants.{Double}
use Rattle.refusal.specs.Answer.{outcome_of}
use Rattle.finish.specs.Answer.{sum_answer}
use Rattle.history.specs.Calls.{sum, figure, line, exactness, totals, Call, add, merge, ask, save, load, shelved}
use Rattle.history.specs.Run.{Store, State, set_table, after, file_on, Answer, groups_are, sum_is, figure_is, line_is, exactness_is, totals_are, length_is}
use Rattle.exports.specs.Width.{kind_of_width}
use Rattle.add.proofs.add.Reads as add_reads
use Rattle.add.proofs.add.Kinds as add_kinds
use Rattle.merge.proofs.merge.Reads as merge_reads
use Rattle.merge.proofs.merge.Kinds as merge_kinds
use Rattle.finish.proofs.sum.Reads as sum_reads
use Rattle.finish.proofs.sum.Kinds as sum_kinds
use Rattle.finish.proofs.figure.Reads as figure_reads
use Rattle.finish.proofs.figure.Kinds as figure_kinds
use Rattle.finish.proofs.line.Reads as line_reads
use Rattle.finish.proofs.line.Kinds as line_kinds
use Rattle.finish.proofs.exactness.Reads as exactness_reads
use Rattle.finish.proofs.exactness.Kinds as exactness_kinds
use Rattle.totals.proofs.totals.Reads as totals_reads
use Rattle.totals.proofs.totals.Kinds as totals_kinds
use Rattle.checkpoint.proofs.save.Reads as save_reads
use Rattle.checkpoint.proofs.save.Kinds as save_kinds
use Rattle.checkpoint.proofs.load.Reads as load_reads
use Rattle.checkpoint.proofs.load.Kinds as load_kinds
use Rattle.exports.proofs.girth_add.Reads as girth_add_reads
use Rattle.exports.proofs.girth_add.Kinds as girth_add_kinds
use Rattle.exports.proofs.girth_merge.Reads as girth_merge_reads
use Rattle.exports.proofs.girth_merge.Kinds as girth_merge_kinds
use Rattle.exports.proofs.girth_sum.Reads as girth_sum_reads
use Rattle.exports.proofs.girth_sum.Kinds as girth_sum_kinds
use Rattle.exports.proofs.girth_figure.Reads as girth_figure_reads
use Rattle.exports.proofs.girth_figure.Kinds as girth_figure_kinds
use Rattle.exports.proofs.girth_line.Reads as girth_line_reads
use Rattle.exports.proofs.girth_line.Kinds as girth_line_kinds
use Rattle.exports.proofs.girth_exact.Reads as girth_exact_reads
use Rattle.exports.proofs.girth_exact.Kinds as girth_exact_kinds
use Rattle.exports.proofs.girth_totals.Reads as girth_totals_reads
use Rattle.exports.proofs.girth_totals.Kinds as girth_totals_kinds
use Rattle.exports.proofs.girth_save.Reads as girth_save_reads
use Rattle.exports.proofs.girth_save.Kinds as girth_save_kinds
use Rattle.exports.proofs.girth_load.Reads as girth_load_reads
use Rattle.exports.proofs.girth_load.Kinds as girth_load_kinds

-- table t is lent: its bytes b, and its group count g
abbrev pub Lent : Store → List ℕ → ℕ → Type 0
Lent t b g = (t.buffer ≡ b) × (t.groups ≡ g)

-- the state after a call that answers o and leaves the bytes b in table i
abbrev pub state_left : State → ℕ → Outcome ℕ → List ℕ → State
state_left s i o b = set_table i (after o b (s.tables i).groups) s

-- the file that a save leaves at the front of the output b: as many bytes as it answers
abbrev pub file_left : Outcome ℕ → List ℕ → List ℕ
file_left (accepted n) b = take n b
file_left (refused r) b = []

-- the state after a save that answers o and leaves the output b
abbrev pub shelf_left : State → Outcome ℕ → List ℕ → State
shelf_left s o b = record { tables = s.tables; shelf = shelved o (file_left o b) s.shelf }

-- what the number that an exported call returns says: a count, or minus the refusal's number
abbrev pub count_said : ℤ → Outcome ℕ
count_said (pos n) = accepted n
count_said (negsuc n) = refused (suc n)

-- what it says of a call that writes the values x out
abbrev pub values_said : {A : Type 0} → A → ℤ → Outcome A
values_said x (pos n) = accepted x
values_said x (negsuc n) = refused (suc n)

-- what it says of a call that answers yes or no: 0 for no, another number from 0 on for yes
abbrev pub flag_said : ℤ → Outcome Bool
flag_said (pos zero) = accepted false
flag_said (pos (suc n)) = accepted true
flag_said (negsuc n) = refused (suc n)

-- in the state s the call answers x and leaves the state s'; a and e have what is lent and given in the order of the parameters, a at first and e at the end
pub data Called (s : State) : Call → Answer → State → Type 1 where
  -- table, group count, keys, values, their kind and work buffer; that the keys hold bytes is not said of a call's arguments
  by_add : (i : ℕ) (κs : Lfts 4) (a : Dens κs add_kinds.ps) (z : (res_t add_kinds.r κs).Denot) (e : AtExit (ended_of 4 add_kinds.ps add_kinds.r) κs) (b : T (are_bytes a.1.1.0.now))
      → Lent (s.tables i) a.0.now a.1.0 → add_reads.Learnt κs a z e
      → Called s (add i a.1.1.1.1.0 a.1.1.0.now a.1.1.1.0.now b (length a.1.1.1.1.1.0.now)) (groups_are (outcome_of z)) (state_left s i (outcome_of z) e.0.now)
  -- the exported call is told the width of its values, which is that of a kind
  by_girth_add : (i : ℕ) (kind : Kind) (κs : Lfts 4) (a : Dens κs girth_add_kinds.ps) (z : (res_t girth_add_kinds.r κs).Denot) (e : AtExit (ended_of 4 girth_add_kinds.ps girth_add_kinds.r) κs) (b : T (are_bytes a.1.1.0.now))
      → kind_of_width a.1.1.1.1.0 ≡ some kind → Lent (s.tables i) a.0.now a.1.0 → girth_add_reads.Learnt κs a z e
      → Called s (add i kind a.1.1.0.now a.1.1.1.0.now b (length a.1.1.1.1.1.0.now)) (groups_are (count_said z)) (state_left s i (count_said z) e.0.now)
  -- or of none: such a call does what the add of columns does that no row count fits
  by_girth_add_of_no_kind : (i : ℕ) (κs : Lfts 4) (a : Dens κs girth_add_kinds.ps) (z : (res_t girth_add_kinds.r κs).Denot) (e : AtExit (ended_of 4 girth_add_kinds.ps girth_add_kinds.r) κs)
      → kind_of_width a.1.1.1.1.0 ≡ none → Lent (s.tables i) a.0.now a.1.0 → girth_add_reads.Learnt κs a z e
      → Called s (add i Double (0 ∷ []) (0 ∷ []) tt (length a.1.1.1.1.1.0.now)) (groups_are (count_said z)) (state_left s i (count_said z) e.0.now)
  -- the first table and its group count, another one and its group count
  by_merge : (i j : ℕ) (apart : T (not (eqb i j))) (κs : Lfts 2) (a : Dens κs merge_kinds.ps) (z : (res_t merge_kinds.r κs).Denot) (e : AtExit (ended_of 2 merge_kinds.ps merge_kinds.r) κs)
      → Lent (s.tables i) a.0.now a.1.0 → Lent (s.tables j) a.1.1.0.now a.1.1.1.0 → merge_reads.Learnt κs a z e
      → Called s (merge i j apart) (groups_are (outcome_of z)) (state_left s i (outcome_of z) e.0.now)
  by_girth_merge : (i j : ℕ) (apart : T (not (eqb i j))) (κs : Lfts 2) (a : Dens κs girth_merge_kinds.ps) (z : (res_t girth_merge_kinds.r κs).Denot) (e : AtExit (ended_of 2 girth_merge_kinds.ps girth_merge_kinds.r) κs)
      → Lent (s.tables i) a.0.now a.1.0 → Lent (s.tables j) a.1.1.0.now a.1.1.1.0 → girth_merge_reads.Learnt κs a z e
      → Called s (merge i j apart) (groups_are (count_said z)) (state_left s i (count_said z) e.0.now)
  -- table, group count and section number; an exported call writes its values out through what follows them, or returns a yes or no
  by_sum : (i : ℕ) (κs : Lfts 1) (a : Dens κs sum_kinds.ps) (z : (res_t sum_kinds.r κs).Denot) (e : AtExit (ended_of 1 sum_kinds.ps sum_kinds.r) κs)
      → Lent (s.tables i) a.0.now a.1.0 → sum_reads.Learnt κs a z e → Called s (ask i (sum a.1.1.0)) (sum_is (sum_answer z)) s
  by_figure : (i : ℕ) (κs : Lfts 1) (a : Dens κs figure_kinds.ps) (z : (res_t figure_kinds.r κs).Denot) (e : AtExit (ended_of 1 figure_kinds.ps figure_kinds.r) κs)
      → Lent (s.tables i) a.0.now a.1.0 → figure_reads.Learnt κs a z e → Called s (ask i (figure a.1.1.0)) (figure_is (outcome_of z)) s
  by_line : (i : ℕ) (κs : Lfts 1) (a : Dens κs line_kinds.ps) (z : (res_t line_kinds.r κs).Denot) (e : AtExit (ended_of 1 line_kinds.ps line_kinds.r) κs)
      → Lent (s.tables i) a.0.now a.1.0 → line_reads.Learnt κs a z e → Called s (ask i (line a.1.1.0)) (line_is (outcome_of z)) s
  by_exactness : (i : ℕ) (κs : Lfts 1) (a : Dens κs exactness_kinds.ps) (z : (res_t exactness_kinds.r κs).Denot) (e : AtExit (ended_of 1 exactness_kinds.ps exactness_kinds.r) κs)
      → Lent (s.tables i) a.0.now a.1.0 → exactness_reads.Learnt κs a z e → Called s (ask i (exactness a.1.1.0)) (exactness_is (outcome_of z)) s
  by_girth_sum : (i : ℕ) (κs : Lfts 3) (a : Dens κs girth_sum_kinds.ps) (z : (res_t girth_sum_kinds.r κs).Denot) (e : AtExit (ended_of 3 girth_sum_kinds.ps girth_sum_kinds.r) κs)
      → Lent (s.tables i) a.0.now a.1.0 → girth_sum_reads.Learnt κs a z e
      → Called s (ask i (sum a.1.1.0)) (sum_is (values_said (record { sum = of_bits binary64 e.1.1.1.0.now; side = side_said e.1.1.1.1.0.now }) z)) s
  by_girth_figure : (i : ℕ) (κs : Lfts 2) (a : Dens κs girth_figure_kinds.ps) (z : (res_t girth_figure_kinds.r κs).Denot) (e : AtExit (ended_of 2 girth_figure_kinds.ps girth_figure_kinds.r) κs)
      → Lent (s.tables i) a.0.now a.1.0 → girth_figure_reads.Learnt κs a z e
      → Called s (ask i (figure a.1.1.0)) (figure_is (values_said e.1.1.1.0.now z)) s
  by_girth_line : (i : ℕ) (κs : Lfts 5) (a : Dens κs girth_line_kinds.ps) (z : (res_t girth_line_kinds.r κs).Denot) (e : AtExit (ended_of 5 girth_line_kinds.ps girth_line_kinds.r) κs)
      → Lent (s.tables i) a.0.now a.1.0 → girth_line_reads.Learnt κs a z e
      → Called s (ask i (line a.1.1.0)) (line_is (values_said (record { key = a.1.1.0; count = e.1.1.1.0.now; sum = of_bits binary64 e.1.1.1.1.0.now; figure = e.1.1.1.1.1.0.now; side = side_said e.1.1.1.1.1.1.0.now }) z)) s
  by_girth_exact : (i : ℕ) (κs : Lfts 1) (a : Dens κs girth_exact_kinds.ps) (z : (res_t girth_exact_kinds.r κs).Denot) (e : AtExit (ended_of 1 girth_exact_kinds.ps girth_exact_kinds.r) κs)
      → Lent (s.tables i) a.0.now a.1.0 → girth_exact_reads.Learnt κs a z e → Called s (ask i (exactness a.1.1.0)) (exactness_is (flag_said z)) s
  -- table and group count, and what the exported call writes its two numbers through
  by_totals : (i : ℕ) (κs : Lfts 1) (a : Dens κs totals_kinds.ps) (z : (res_t totals_kinds.r κs).Denot) (e : AtExit (ended_of 1 totals_kinds.ps totals_kinds.r) κs)
      → Lent (s.tables i) a.0.now a.1.0 → totals_reads.Learnt κs a z e → Called s (ask i totals) (totals_are (outcome_of z)) s
  by_girth_totals : (i : ℕ) (κs : Lfts 3) (a : Dens κs girth_totals_kinds.ps) (z : (res_t girth_totals_kinds.r κs).Denot) (e : AtExit (ended_of 3 girth_totals_kinds.ps girth_totals_kinds.r) κs)
      → Lent (s.tables i) a.0.now a.1.0 → girth_totals_reads.Learnt κs a z e
      → Called s (ask i totals) (totals_are (values_said (record { groups = e.1.1.0.now; count = e.1.1.1.0.now }) z)) s
  -- table, group count and output
  by_save : (i : ℕ) (κs : Lfts 2) (a : Dens κs save_kinds.ps) (z : (res_t save_kinds.r κs).Denot) (e : AtExit (ended_of 2 save_kinds.ps save_kinds.r) κs)
      → Lent (s.tables i) a.0.now a.1.0 → save_reads.Learnt κs a z e
      → Called s (save i (length a.1.1.0.now)) (length_is (outcome_of z)) (shelf_left s (outcome_of z) e.1.1.0.now)
  by_girth_save : (i : ℕ) (κs : Lfts 2) (a : Dens κs girth_save_kinds.ps) (z : (res_t girth_save_kinds.r κs).Denot) (e : AtExit (ended_of 2 girth_save_kinds.ps girth_save_kinds.r) κs)
      → Lent (s.tables i) a.0.now a.1.0 → girth_save_reads.Learnt κs a z e
      → Called s (save i (length a.1.1.0.now)) (length_is (count_said z)) (shelf_left s (count_said z) e.1.1.0.now)
  -- the file with the number n, and the bytes of a table
  by_load : (i n : ℕ) (κs : Lfts 2) (a : Dens κs load_kinds.ps) (z : (res_t load_kinds.r κs).Denot) (e : AtExit (ended_of 2 load_kinds.ps load_kinds.r) κs)
      → file_on s.shelf n ≡ a.0.now → (s.tables i).buffer ≡ a.1.0.now → load_reads.Learnt κs a z e
      → Called s (load i n) (groups_are (outcome_of z)) (state_left s i (outcome_of z) e.1.0.now)
  by_girth_load : (i n : ℕ) (κs : Lfts 2) (a : Dens κs girth_load_kinds.ps) (z : (res_t girth_load_kinds.r κs).Denot) (e : AtExit (ended_of 2 girth_load_kinds.ps girth_load_kinds.r) κs)
      → file_on s.shelf n ≡ a.0.now → (s.tables i).buffer ≡ a.1.0.now → girth_load_reads.Learnt κs a z e
      → Called s (load i n) (groups_are (count_said z)) (state_left s i (count_said z) e.1.0.now)
