-- Saving and loading a table, as their callers learn them: what each answers and leaves, and that each gives back what the other took.
use Rattle.std.specs.Prelude.{ℕ, ◌*◌, ◌≤◌, ◌≡◌, T, length, take, drop}
use Rattle.std.proofs.Math.Pow.{are_bytes}
use contract.Lifetimes.{Lfts}
use borrow.Fn.Kinds.{Dens, ended_of, res_t}
use denote.Triple.Clauses.{AtExit}
use Rattle.refusal.specs.Outcome.{accepted}
use Rattle.record.specs.Layout.{records}
use Rattle.refusal.specs.Answer.{outcome_of}
use Rattle.checkpoint.specs.Calls.{save_outcome, save_leaves, load_outcome, load_leaves}
use Rattle.exports.specs.Calls.{returns_count}
use Rattle.conformance.specs.Called.{count_said}
use Rattle.checkpoint.proofs.save.Reads as save_reads
use Rattle.checkpoint.proofs.save.Kinds as save_kinds
use Rattle.checkpoint.proofs.load.Reads as load_reads
use Rattle.checkpoint.proofs.load.Kinds as load_kinds
use Rattle.exports.proofs.girth_save.Reads as girth_save_reads
use Rattle.exports.proofs.girth_save.Kinds as girth_save_kinds
use Rattle.exports.proofs.girth_load.Reads as girth_load_reads
use Rattle.exports.proofs.girth_load.Kinds as girth_load_kinds

-- a save's a has table, group count and output, a load's b has file and table; e and f have the same at the end of the call
pub record Checkpoints : Type 1 where
  pub of_save : (κs : Lfts 2) (a : Dens κs save_kinds.ps) (z : (res_t save_kinds.r κs).Denot) (e : AtExit (ended_of 2 save_kinds.ps save_kinds.r) κs) → save_reads.Learnt κs a z e
      → (outcome_of z ≡ save_outcome a.0.now a.1.0 (length a.1.1.0.now)) × (e.1.1.0.now ≡ save_leaves a.0.now a.1.0 a.1.1.0.now)
  pub of_girth_save : (κs : Lfts 2) (a : Dens κs girth_save_kinds.ps) (z : (res_t girth_save_kinds.r κs).Denot) (e : AtExit (ended_of 2 girth_save_kinds.ps girth_save_kinds.r) κs) → girth_save_reads.Learnt κs a z e
      → (z ≡ returns_count (save_outcome a.0.now a.1.0 (length a.1.1.0.now))) × (e.1.1.0.now ≡ save_leaves a.0.now a.1.0 a.1.1.0.now)
  pub of_load : (κs : Lfts 2) (b : Dens κs load_kinds.ps) (z : (res_t load_kinds.r κs).Denot) (f : AtExit (ended_of 2 load_kinds.ps load_kinds.r) κs) → load_reads.Learnt κs b z f
      → (outcome_of z ≡ load_outcome b.0.now (length b.1.0.now)) × (f.1.0.now ≡ load_leaves b.0.now b.1.0.now)
  pub of_girth_load : (κs : Lfts 2) (b : Dens κs girth_load_kinds.ps) (z : (res_t girth_load_kinds.r κs).Denot) (f : AtExit (ended_of 2 girth_load_kinds.ps girth_load_kinds.r) κs) → girth_load_reads.Learnt κs b z f
      → (z ≡ returns_count (load_outcome b.0.now (length b.1.0.now))) × (f.1.0.now ≡ load_leaves b.0.now b.1.0.now)
  -- the first bytes of the output, as many as a save answers, loaded into any table with room: g is answered, the records are the same, to the byte, and the bytes
  -- after them are as they were
  pub records_back : (κs : Lfts 2) (a : Dens κs girth_save_kinds.ps) (z : (res_t girth_save_kinds.r κs).Denot) (e : AtExit (ended_of 2 girth_save_kinds.ps girth_save_kinds.r) κs) → girth_save_reads.Learnt κs a z e
      → (n : ℕ) → count_said z ≡ accepted n
      → (κs' : Lfts 2) (b : Dens κs' girth_load_kinds.ps) (y : (res_t girth_load_kinds.r κs').Denot) (f : AtExit (ended_of 2 girth_load_kinds.ps girth_load_kinds.r) κs') → girth_load_reads.Learnt κs' b y f
      → b.0.now ≡ take n e.1.1.0.now → 64 * a.1.0 ≤ length b.1.0.now
      → (count_said y ≡ accepted a.1.0) × (records f.1.0.now a.1.0 ≡ records a.0.now a.1.0)
      × (take (64 * a.1.0) f.1.0.now ≡ take (64 * a.1.0) a.0.now) × (drop (64 * a.1.0) f.1.0.now ≡ drop (64 * a.1.0) b.1.0.now)
  -- a file that was loaded, saved again from the table that it left, with the group count answered, to any output with room: its length is answered, and it is the file,
  -- to the byte; that it holds bytes is not said of a call's arguments
  pub file_back : (κs : Lfts 2) (b : Dens κs girth_load_kinds.ps) (y : (res_t girth_load_kinds.r κs).Denot) (f : AtExit (ended_of 2 girth_load_kinds.ps girth_load_kinds.r) κs) → girth_load_reads.Learnt κs b y f
      → T (are_bytes b.0.now) → (g : ℕ) → count_said y ≡ accepted g
      → (κs' : Lfts 2) (a : Dens κs' girth_save_kinds.ps) (z : (res_t girth_save_kinds.r κs').Denot) (e : AtExit (ended_of 2 girth_save_kinds.ps girth_save_kinds.r) κs') → girth_save_reads.Learnt κs' a z e
      → a.0.now ≡ f.1.0.now → a.1.0 ≡ g → length b.0.now ≤ length a.1.1.0.now
      → (count_said z ≡ accepted (length b.0.now)) × (take (length b.0.now) e.1.1.0.now ≡ b.0.now)
      × (drop (length b.0.now) e.1.1.0.now ≡ drop (length b.0.now) a.1.1.0.now)
