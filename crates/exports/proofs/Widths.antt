-- The widths of the kinds, and columns of one byte each, which no row count fits: the code adds them where values have a width of no kind, and their removal does the same.
use Prim.Native.Nat.{ℕ}
use mathlib.Core.Path.{◌≡◌, refl, ap, ◌∙◌}
use mathlib.Core.Bool.{Bool, true, false, not}
use mathlib.Core.List.{List, [], ◌∷◌}
use mathlib.Core.Option.{some, none}
use lib.Dec.{ltb}
use lib.ListN.{length}
use Rattle.refusal.specs.Outcome.{Outcome, refused, ground, outcome}
use Rattle.columns.specs.declared.Kind.{Kind}
use Rattle.columns.specs.declared.Kind.TheVariants.{Double, Single}
use Rattle.columns.specs.Columns.{width, columns_fit}
use Rattle.record.specs.Sound.{sound}
use Rattle.table.specs.Calls.{leaves, column_grounds, add_sections, add_grounds, add_outcome, add_leaves}
use Rattle.remove.specs.Calls.{remove_grounds, remove_sections, remove_outcome, leaves_fewer, remove_leaves}
use Rattle.exports.specs.Width.{kind_of_width, no_kind_outcome, add_of_width}

-- a kind is found by its width
pub width_back : (kind : Kind) → kind_of_width (width kind) ≡ some kind
width_back Double = refl
width_back Single = refl

-- one byte
abbrev pub one_byte : List ℕ
one_byte = 0 ∷ []

unfit : columns_fit Double one_byte one_byte ≡ false
unfolding columns_fit
unfit = refl

-- a call that is refused with 7, 8 or 9 leaves its bytes: they are what f gives of any refusal
refused-leaves : (f : Outcome ℕ → List ℕ) (s : List ℕ) → ((n : ℕ) → f (refused n) ≡ s) → (a b : Bool) → f (outcome (ground 7 a ∷ ground 8 b ∷ ground 9 true ∷ []) 0) ≡ s
refused-leaves f s h true b = h 7
refused-leaves f s h false true = h 8
refused-leaves f s h false false = h 9

module _ (s : List ℕ) (g work_len : ℕ) where
  no_kind_leaves : (f : Outcome ℕ → List ℕ) {o : Outcome ℕ} → ((n : ℕ) → f (refused n) ≡ s) → o ≡ no_kind_outcome s g work_len → f o ≡ s
  no_kind_leaves f h e = ap f e ∙ refused-leaves f s h (not (sound s g)) (ltb work_len (length s))

  -- the add of such columns has the outcome of values of no kind, and leaves the table as it was
  pub unfit_add : add_outcome Double s g one_byte one_byte work_len ≡ no_kind_outcome s g work_len
  unfolding add_grounds column_grounds
  unfit_add = rw unfit

  pub unfit_add_leaves : add_leaves Double s g one_byte one_byte work_len ≡ s
  unfit_add_leaves = no_kind_leaves (λ o. leaves o (add_sections Double s g one_byte one_byte) s) (λ n. refl) unfit_add

  -- and so has their removal
  pub unfit_removal : remove_outcome Double s g one_byte one_byte work_len ≡ no_kind_outcome s g work_len
  unfolding remove_grounds column_grounds
  unfit_removal = rw unfit

  pub unfit_removal_leaves : remove_leaves Double s g one_byte one_byte work_len ≡ s
  unfit_removal_leaves = no_kind_leaves (λ o. leaves_fewer o (remove_sections Double s g one_byte one_byte) g s) (λ n. refl) unfit_removal

-- so the add of such columns is one of values of no kind, whatever its columns are
module _ (s : List ℕ) (g : ℕ) (ks vs : List ℕ) (work_len : ℕ) where
  pub unknown_outcome : add_outcome Double s g one_byte one_byte work_len ≡ add_of_width none s g ks vs work_len
  unknown_outcome = unfit_add s g work_len

  pub unknown_leaves : add_leaves Double s g one_byte one_byte work_len ≡ s
  unknown_leaves = unfit_add_leaves s g work_len
