-- The answers of a removal: by the tests of its columns, then by its sections. The idea: each test that the code makes decides the next ground of the list.
use Prim.Native.Nat.{ℕ}
use mathlib.Core.Path.{◌≡◌, refl, sym, ap, ◌∙◌}
use mathlib.Core.Bool.{true, false}
use mathlib.Core.List.{List, [], ◌∷◌}
use Rattle.refusal.specs.Outcome.{Outcome, accepted, refused, Ground, ground, outcome}
use Rattle.refusal.proofs.Outcomes.{accepted_not, refused_first, accepted_first}
use lib.ListN.{length}
use Rattle.codec.specs.Cells.{cells}
use Rattle.columns.specs.declared.Kind.{Kind}
use Rattle.record.specs.Section.{Section, sections, written}
use Rattle.table.specs.Calls.{column_grounds, column_outcome}
use Rattle.remove.specs.Remaining.{remaining, too_few_rows, raises_top, total_exceeds}
use Rattle.remove.specs.Calls.{patch_sections, patch_grounds, remove_grounds, remove_sections, remove_outcome, zeroed, leaves_fewer, remove_leaves}
use Rattle.remove.specs.Steps.{compared_outcome, TakenOut}

-- a table of no records holds no sections
pub no_sections : (s : List ℕ) → sections s 0 ≡ []
unfolding cells
no_sections s = refl

-- ---- by the sections ts of the table and ps of the patch
module _ (s : List ℕ) (g : ℕ) (ts ps : List Section) where
  abbrev us : List Section
  us = remaining ts ps

  as_was : (n : ℕ) → outcome (patch_grounds ts ps) (length us) ≡ refused n → TakenOut s g ts ps (refused n) s
  as_was n e = (sym e, refl)

  abbrev compared : List Ground
  compared = ground 20 (too_few_rows ts ps) ∷ ground 21 (raises_top ts ps) ∷ []

  abbrev totals : List Ground
  totals = ground 22 (total_exceeds ts ps) ∷ []

  pub bad_sections : (n : ℕ) → compared_outcome ts ps ≡ refused n → TakenOut s g ts ps (refused n) s
  unfolding patch_grounds
  bad_sections n e = as_was n (refused_first compared totals tt (length us) e)

  -- 20 is the first of them
  pub too_few : too_few_rows ts ps ≡ true → TakenOut s g ts ps (refused 20) s
  unfolding patch_grounds
  too_few e = as_was 20 (rw e)

  module _ (good : compared_outcome ts ps ≡ accepted tt) where
    pub enough_rows : too_few_rows ts ps ≡ false
    enough_rows = accepted_not 20 compared tt good

    by_totals : outcome (patch_grounds ts ps) (length us) ≡ outcome totals (length us)
    unfolding patch_grounds
    by_totals = accepted_first compared totals tt (length us) good

    pub too_large : total_exceeds ts ps ≡ true → TakenOut s g ts ps (refused 22) s
    too_large e = as_was 22 (by_totals ∙ rw e)

    pub all_taken : total_exceeds ts ps ≡ false → (k : ℕ) (s' : List ℕ) → k ≡ length us → s' ≡ written us (zeroed g s) → TakenOut s g ts ps (accepted k) s'
    all_taken e k s' n w = (ap accepted n ∙ sym (by_totals ∙ rw e), w)

-- ---- by the columns
module _ (kind : Kind) (s : List ℕ) (g : ℕ) (ks vs : List ℕ) (work_len : ℕ) where
  abbrev Answered : Outcome ℕ → List ℕ → Type 0
  Answered r s' = (r ≡ remove_outcome kind s g ks vs work_len) × (s' ≡ remove_leaves kind s g ks vs work_len)

  -- the columns are refused
  pub bad_columns : (n : ℕ) → column_outcome kind s g ks vs work_len ≡ refused n → Answered (refused n) s
  unfolding remove_grounds
  bad_columns n e =
      let ts = remove_sections kind s g ks vs in
      let q = refused_first (column_grounds kind s g ks vs work_len) (patch_grounds (sections s g) (patch_sections kind ks vs)) tt (length ts) e in
      (sym q, sym (ap (λ (o : Outcome ℕ). leaves_fewer o ts g s) q))

  -- else the sections decide
  pub by_sections : column_outcome kind s g ks vs work_len ≡ accepted tt → (r : Outcome ℕ) (s' : List ℕ) → TakenOut s g (sections s g) (patch_sections kind ks vs) r s' → Answered r s'
  unfolding remove_grounds
  by_sections good r s' h =
      let ts = remove_sections kind s g ks vs in
      let q = h.0 ∙ sym (accepted_first (column_grounds kind s g ks vs work_len) (patch_grounds (sections s g) (patch_sections kind ks vs)) tt (length ts) good) in
      (q, h.1 ∙ ap (λ (o : Outcome ℕ). leaves_fewer o ts g s) q)
