-- The columns that the reader hands back, as its callers learn it: the bytes, and their place in the lent file.
use Rattle.std.specs.Prelude.{◌<◌, ◌≡◌, length}
use contract.Lifetimes.{Lfts}
use borrow.Fn.Kinds.{Dens, ended_of, res_t}
use denote.Triple.Clauses.{AtExit}
use Rattle.refusal.specs.Outcome.{accepted}
use Rattle.patch.specs.File.{key_distance, value_distance, kind_of, read_outcome, key_column, value_column, key_start, value_start, address_after}
use Rattle.patch.proofs.keys.Reads as keys_reads
use Rattle.patch.proofs.keys.Kinds as keys_kinds
use Rattle.patch.proofs.values.Reads as values_reads
use Rattle.patch.proofs.values.Kinds as values_kinds

-- patch::keys and patch::values of a file
pub record Parts : Type 1 where
  pub of_keys : (κs : Lfts 1) (a : Dens κs keys_kinds.ps) (z : (res_t keys_kinds.r κs).Denot) (e : AtExit (ended_of 1 keys_kinds.ps keys_kinds.r) κs) → keys_reads.Learnt κs a z e
      → (z.now ≡ key_column (kind_of a.0.now) a.0.now) × (z.ref_ptr ≡ address_after a.0.ref_ptr (key_start (kind_of a.0.now) a.0.now))
  pub of_values : (κs : Lfts 1) (a : Dens κs values_kinds.ps) (z : (res_t values_kinds.r κs).Denot) (e : AtExit (ended_of 1 values_kinds.ps values_kinds.r) κs) → values_reads.Learnt κs a z e
      → (z.now ≡ value_column (kind_of a.0.now) a.0.now) × (z.ref_ptr ≡ address_after a.0.ref_ptr (value_start (kind_of a.0.now) a.0.now))
  -- so the empty part of a file without rows does not stand at the file's front, unless its column starts there
  pub keys_not_in_front : (κs : Lfts 1) (a : Dens κs keys_kinds.ps) (z : (res_t keys_kinds.r κs).Denot) (e : AtExit (ended_of 1 keys_kinds.ps keys_kinds.r) κs) → keys_reads.Learnt κs a z e
      → read_outcome (kind_of a.0.now) a.0.now ≡ accepted 0 → key_distance a.0.now < length a.0.now → z.ref_ptr ≡ a.0.ref_ptr → ⊥
  pub values_not_in_front : (κs : Lfts 1) (a : Dens κs values_kinds.ps) (z : (res_t values_kinds.r κs).Denot) (e : AtExit (ended_of 1 values_kinds.ps values_kinds.r) κs) → values_reads.Learnt κs a z e
      → read_outcome (kind_of a.0.now) a.0.now ≡ accepted 0 → value_distance a.0.now < length a.0.now → z.ref_ptr ≡ a.0.ref_ptr → ⊥
