-- The answer of an add: by the tests of its columns, then by its sections.
use Prim.Native.Nat.{ℕ, ◌≤◌}
use mathlib.Core.Path.{◌≡◌, sym, ap, ◌∙◌}
use mathlib.Core.Bool.{true, false}
use mathlib.Core.List.{List}
use borrow.Author.Tests.{not-false, ltb-false}
use lib.Dec.{T}
use lib.ListN.{length}
use Rattle.refusal.specs.Outcome.{Outcome, accepted, refused, outcome, condition}
use Rattle.refusal.proofs.Outcomes.{accepted_not, refused_first, accepted_first}
use Rattle.columns.specs.declared.Kind.{Kind}
use Rattle.columns.specs.Columns.{columns_fit}
use Rattle.record.specs.Sound.{sound}
use Rattle.record.specs.Section.{Section}
use Rattle.lists.specs.Lists.{any_of}
use Rattle.table.specs.Calls.{overflows, leaves, add_sections, column_grounds, column_outcome, section_grounds, add_grounds, add_outcome, add_leaves}
use Rattle.add.specs.Steps.{TakenIfRoom}

module _ (kind : Kind) (s : List ℕ) (g : ℕ) (ks vs : List ℕ) (work_len : ℕ) where
  abbrev pub Answered : Outcome ℕ → List ℕ → Type 0
  Answered r s' = (r ≡ add_outcome kind s g ks vs work_len) × (s' ≡ add_leaves kind s g ks vs work_len)

  abbrev us : List Section
  us = add_sections kind s g ks vs

  -- a refused add leaves the table as it was
  unchanged : (n : ℕ) → add_outcome kind s g ks vs work_len ≡ refused n → Answered (refused n) s
  unchanged n e = (sym e, sym (ap (λ (o : Outcome ℕ). leaves o us s) e))

  -- the columns are refused
  pub bad_columns : (n : ℕ) → column_outcome kind s g ks vs work_len ≡ refused n → Answered (refused n) s
  unfolding add_grounds
  bad_columns n e = unchanged n (refused_first (column_grounds kind s g ks vs work_len) (section_grounds (length s) us) tt (length us) e)

  module _ (good : column_outcome kind s g ks vs work_len ≡ accepted tt) where
    -- no condition on the columns holds
    not_held : (n : ℕ) → condition n (column_grounds kind s g ks vs work_len) ≡ false
    not_held n = accepted_not n (column_grounds kind s g ks vs work_len) tt good

    pub good_table : T (sound s g)
    unfolding column_grounds
    good_table = rw (not-false (sound s g) (not_held 7)) tt

    pub good_work : length s ≤ work_len
    unfolding column_grounds
    good_work = ltb-false work_len (length s) (not_held 8)

    pub good_columns : columns_fit kind ks vs ≡ true
    unfolding column_grounds
    good_columns = not-false (columns_fit kind ks vs) (not_held 9)

    -- the sections decide
    by_sections : add_outcome kind s g ks vs work_len ≡ outcome (section_grounds (length s) us) (length us)
    unfolding add_grounds
    by_sections = accepted_first (column_grounds kind s g ks vs work_len) (section_grounds (length s) us) tt (length us) good

    pub too_many : any_of overflows us ≡ true → Answered (refused 11) s
    too_many e = unchanged 11 (by_sections ∙ rw e)

    -- what is left is whether there is room
    pub all_good : any_of overflows us ≡ false → (r : Outcome ℕ) (s' : List ℕ) → TakenIfRoom s us r s' → Answered r s'
    all_good e r s' h =
        let q : r ≡ add_outcome kind s g ks vs work_len = h.0 ∙ sym (by_sections ∙ rw e) in
        (q, h.1 ∙ ap (λ (o : Outcome ℕ). leaves o us s) q)
