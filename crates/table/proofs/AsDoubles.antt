-- An add of rows of any kind answers and leaves what the add of the same rows in doubles does.
use Prim.Native.Nat.{ℕ}
use mathlib.Core.Path.{◌≡◌, refl, ap, ◌∙◌}
use mathlib.Core.Bool.{Bool, true, false, not, cond}
use mathlib.Core.List.{List, ◌∷◌}
use lib.Dec.{ltb}
use lib.ListN.{length}
use Rattle.refusal.specs.Outcome.{Outcome, refused, Ground, ground, outcome}
use Rattle.lists.specs.Lists.{any_of}
use Rattle.columns.specs.declared.Kind.{Kind}
use Rattle.columns.specs.declared.Kind.TheVariants.{Double}
use Rattle.columns.specs.Columns.{Row, rows_of, columns_fit, as_doubles}
use Rattle.columns.proofs.AsDoubles.{doubles_fit, doubles-rows}
use Rattle.record.specs.Sound.{sound}
use Rattle.record.specs.Section.{Section, sections}
use Rattle.table.specs.Combine.{added}
use Rattle.table.specs.Calls.{leaves, not_finite, column_grounds, section_grounds, add_sections, add_grounds, add_outcome, add_leaves}

module _ (kind : Kind) (ks vs : List ℕ) where
  abbrev ds : List ℕ
  ds = as_doubles kind vs

  -- what does not depend on the rows where no n fits the columns is the same for both columns
  alike : {A : Type 0} (F : Bool → List Row → A) → ((r r' : List Row) → F false r ≡ F false r') → F (columns_fit Double ks ds) (rows_of Double ks ds) ≡ F (columns_fit kind ks vs) (rows_of kind ks vs)
  alike F none = ap (λ (b : Bool). F b (rows_of Double ks ds)) (doubles_fit kind ks vs) ∙ go (columns_fit kind ks vs) refl
    where
      go : (b : Bool) → columns_fit kind ks vs ≡ b → F b (rows_of Double ks ds) ≡ F b (rows_of kind ks vs)
      go true e = ap (F true) (doubles-rows kind ks vs e)
      go false e = none (rows_of Double ks ds) (rows_of kind ks vs)

  -- a call that takes columns, and what it leaves: the conditions after 8, 9 and 10 follow from the rows, and a refused call leaves what does not depend on them
  module _ {A B : Type 0} (len work_len : ℕ) (rest : List Row → List Ground) (x : List Row → A) (leave : Outcome A → List Row → B) where
    -- by whether the columns fit, and by their rows
    abbrev left : Bool → List Row → B
    left fit rows = leave (outcome (ground 8 (ltb work_len len) ∷ ground 9 (not fit) ∷ ground 10 (any_of not_finite rows) ∷ rest rows) (x rows)) rows

    pub left_alike : ((n : ℕ) (r r' : List Row) → leave (refused n) r ≡ leave (refused n) r') → left (columns_fit Double ks ds) (rows_of Double ks ds) ≡ left (columns_fit kind ks vs) (rows_of kind ks vs)
    left_alike same = alike left (λ r r'. unfit (ltb work_len len) r r')
      where
        unfit : (b : Bool) (r r' : List Row) → leave (cond b (refused 8) (refused 9)) r ≡ leave (cond b (refused 8) (refused 9)) r'
        unfit true r r' = same 8 r r'
        unfit false r r' = same 9 r r'

-- ---- an add

module _ (kind : Kind) (s : List ℕ) (g : ℕ) (ks vs : List ℕ) (work_len : ℕ) where
  -- the sections with further rows
  abbrev with : List Row → List Section
  with r = added (sections s g) r

  -- whatever is made of its outcome and its sections, provided that the sections of a refused one make no difference
  pub made_alike : {B : Type 0} (make : Outcome ℕ → List Section → B) → ((n : ℕ) (ts ts' : List Section) → make (refused n) ts ≡ make (refused n) ts')
      → make (add_outcome Double s g ks (as_doubles kind vs) work_len) (add_sections Double s g ks (as_doubles kind vs)) ≡ make (add_outcome kind s g ks vs work_len) (add_sections kind s g ks vs)
  unfolding add_grounds column_grounds
  made_alike make same =
      left_alike kind ks vs (length s) work_len (λ (r : List Row). section_grounds (length s) (with r)) (λ (r : List Row). length (with r)) (λ o r. make (cond (not (sound s g)) (refused 7) o) (with r))
      (λ n r r'. go (not (sound s g)) n (with r) (with r'))
    where
      go : (b : Bool) (n : ℕ) (ts ts' : List Section) → make (cond b (refused 7) (refused n)) ts ≡ make (cond b (refused 7) (refused n)) ts'
      go true n ts ts' = same 7 ts ts'
      go false n ts ts' = same n ts ts'

  pub add_alike : add_outcome Double s g ks (as_doubles kind vs) work_len ≡ add_outcome kind s g ks vs work_len
  add_alike = made_alike (λ o ts. o) (λ n ts ts'. refl)

  pub leaves_alike : add_leaves Double s g ks (as_doubles kind vs) work_len ≡ add_leaves kind s g ks vs work_len
  leaves_alike = made_alike (λ o ts. leaves o ts s) (λ n ts ts'. refl)
