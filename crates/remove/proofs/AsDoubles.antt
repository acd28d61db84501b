-- A removal of rows of any kind answers and leaves what the removal of the same rows in doubles does.
use Prim.Native.Nat.{ℕ}
use mathlib.Core.Path.{◌≡◌, refl}
use mathlib.Core.Bool.{Bool, true, false, not, cond}
use mathlib.Core.List.{List, []}
use lib.ListN.{length}
use Rattle.refusal.specs.Outcome.{Outcome, refused}
use Rattle.columns.specs.declared.Kind.{Kind}
use Rattle.columns.specs.declared.Kind.TheVariants.{Double}
use Rattle.columns.specs.Columns.{Row, as_doubles}
use Rattle.record.specs.Sound.{sound}
use Rattle.record.specs.Section.{Section, sections}
use Rattle.table.specs.Combine.{added}
use Rattle.table.specs.Calls.{column_grounds}
use Rattle.table.proofs.AsDoubles.{left_alike}
use Rattle.remove.specs.Remaining.{remaining}
use Rattle.remove.specs.Calls.{patch_grounds, remove_grounds, remove_sections, remove_outcome, leaves_fewer, remove_leaves}

module _ (kind : Kind) (s : List ℕ) (g : ℕ) (ks vs : List ℕ) (work_len : ℕ) where
  -- the sections without the rows
  abbrev less : List Row → List Section
  less r = remaining (sections s g) (added [] r)

  -- whatever is made of its outcome and its sections, provided that the sections of a refused one make no difference
  made_alike : {B : Type 0} (make : Outcome ℕ → List Section → B) → ((n : ℕ) (ts ts' : List Section) → make (refused n) ts ≡ make (refused n) ts')
      → make (remove_outcome Double s g ks (as_doubles kind vs) work_len) (remove_sections Double s g ks (as_doubles kind vs)) ≡ make (remove_outcome kind s g ks vs work_len) (remove_sections kind s g ks vs)
  unfolding remove_grounds column_grounds
  made_alike make same =
      left_alike kind ks vs (length s) work_len (λ (r : List Row). patch_grounds (sections s g) (added [] r)) (λ (r : List Row). length (less r)) (λ o r. make (cond (not (sound s g)) (refused 7) o) (less r))
      (λ n r r'. go (not (sound s g)) n (less r) (less r'))
    where
      go : (b : Bool) (n : ℕ) (ts ts' : List Section) → make (cond b (refused 7) (refused n)) ts ≡ make (cond b (refused 7) (refused n)) ts'
      go true n ts ts' = same 7 ts ts'
      go false n ts ts' = same n ts ts'

-- Card 9: with its values in doubles a removal answers the same and leaves the same
pub removed_alike : (kind : Kind) (s : List ℕ) (g : ℕ) (ks vs : List ℕ) (work_len : ℕ)
    → (remove_outcome Double s g ks (as_doubles kind vs) work_len ≡ remove_outcome kind s g ks vs work_len)
    × (remove_leaves Double s g ks (as_doubles kind vs) work_len ≡ remove_leaves kind s g ks vs work_len)
removed_alike kind s g ks vs work_len = (
  made_alike kind s g ks vs work_len (λ o ts. o) (λ n ts ts'. refl),
  made_alike kind s g ks vs work_len (λ o ts. leaves_fewer o ts g s) (λ n ts ts'. refl),
)
