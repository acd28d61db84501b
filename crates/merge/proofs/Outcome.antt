-- The outcome of a merge, by the first of its grounds that holds.
use Prim.Native.Nat.{ℕ, ◌≤◌, ◌<◌}
use mathlib.Core.Path.{◌≡◌, sym}
use mathlib.Core.Bool.{true, false, not}
use mathlib.Core.List.{List}
use borrow.Author.Tests.{not-false, lt-ltb, le-ltb, ltb-false}
use lib.Dec.{T}
use lib.ListN.{length}
use Rattle.refusal.specs.Outcome.{accepted, refused, condition}
use Rattle.refusal.proofs.Outcomes.{accepted_not, accepted-value}
use Rattle.lists.proofs.Booleans.{both_false}
use Rattle.record.specs.Layout.{capacity}
use Rattle.record.specs.Sound.{sound}
use Rattle.table.specs.Calls.{overflows, merge_sections, merge_grounds, merge_outcome}
use Rattle.lists.specs.Lists.{any_of}

module _ (s : List ℕ) (g : ℕ) (s' : List ℕ) (g' : ℕ) where
  pub first_not_sound : sound s g ≡ false → refused 7 ≡ merge_outcome s g s' g'
  unfolding merge_grounds
  first_not_sound p = rw p

  module _ (p : sound s g ≡ true) where
    pub second_not_sound : sound s' g' ≡ false → refused 7 ≡ merge_outcome s g s' g'
    unfolding merge_grounds
    second_not_sound q = rw (p, q)

    module _ (q : sound s' g' ≡ true) where
      pub too_many_rows : any_of overflows (merge_sections s g s' g') ≡ true → refused 11 ≡ merge_outcome s g s' g'
      unfolding merge_grounds
      too_many_rows r = rw (p, q, r)

      module _ (r : any_of overflows (merge_sections s g s' g') ≡ false) where
        pub too_many_keys : capacity (length s) < length (merge_sections s g s' g') → refused 12 ≡ merge_outcome s g s' g'
        unfolding merge_grounds
        too_many_keys h = rw (p, q, r, lt-ltb (capacity (length s)) (length (merge_sections s g s' g')) h)

        pub fitting : length (merge_sections s g s' g') ≤ capacity (length s) → accepted (length (merge_sections s g s' g')) ≡ merge_outcome s g s' g'
        unfolding merge_grounds
        fitting h = rw (p, q, r, le-ltb (capacity (length s)) (length (merge_sections s g s' g')) h)

  -- what an accepted merge says
  pub record AcceptedMerge (n : ℕ) : Type 0 where
    pub sound₁ : T (sound s g)
    pub sound₂ : T (sound s' g')
    pub no_overflow : any_of overflows (merge_sections s g s' g') ≡ false
    pub groups : n ≡ length (merge_sections s g s' g')
    pub room : length (merge_sections s g s' g') ≤ capacity (length s)

  pub accepted_says : (n : ℕ) → accepted n ≡ merge_outcome s g s' g' → AcceptedMerge n
  unfolding merge_grounds
  accepted_says n e =
      let us = merge_sections s g s' g' in
      let none : (k : ℕ) → condition k (merge_grounds s g s' g') ≡ false = λ k. accepted_not k (merge_grounds s g s' g') (length us) (sym e) in
      let both = both_false (not (sound s g)) (not (sound s' g')) (none 7) in
      record {
        sound₁ = rw (not-false (sound s g) both.0) tt;
        sound₂ = rw (not-false (sound s' g') both.1) tt;
        no_overflow = none 11;
        groups = sym (accepted-value (merge_grounds s g s' g') (length us) (sym e));
        room = ltb-false (capacity (length s)) (length us) (none 12);
      }
