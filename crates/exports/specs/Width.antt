-- An add and a removal that are told the width of their values.
use Rattle.std.specs.Prelude.{ℕ, true, not, cond, List, [], ◌∷◌, eqb, ltb, length}
use Rattle.std.proofs.Math.Option.{Option, some, none}
use Rattle.refusal.specs.Outcome.{Outcome, ground, outcome}
use Rattle.columns.specs.declared.Kind.{Kind}
use Rattle.columns.specs.declared.Kind.TheVariants.{Double, Single}
use Rattle.record.specs.Sound.{sound}
use Rattle.table.specs.Calls.{add_outcome, add_leaves}
use Rattle.remove.specs.Calls.{remove_outcome, remove_leaves}
use Rattle.std.specs.Prelude as prelude

-- the kind of value that has so many bytes
abbrev pub kind_of_width : ℕ → Option Kind
kind_of_width w = cond (eqb w 8) (some Double) (cond (eqb w 4) (some Single) none)

-- what each answer says of a width
abbrev pub width_kind : prelude.Option Kind → Option Kind
width_kind (prelude.Some kind) = some kind
width_kind prelude.None = none

-- the outcome of a call with values of no kind: 9 is given for them, after 7 and 8, whatever the columns are
abbrev pub no_kind_outcome : List ℕ → ℕ → ℕ → Outcome ℕ
no_kind_outcome s g work_len = outcome (ground 7 (not (sound s g)) ∷ ground 8 (ltb work_len (length s)) ∷ ground 9 true ∷ []) 0

-- the outcome of an add of values of some kind, or of none
abbrev pub add_of_width : Option Kind → List ℕ → ℕ → List ℕ → List ℕ → ℕ → Outcome ℕ
add_of_width (some kind) s g ks vs work_len = add_outcome kind s g ks vs work_len
add_of_width none s g ks vs work_len = outcome (ground 7 (not (sound s g)) ∷ ground 8 (ltb work_len (length s)) ∷ ground 9 true ∷ []) 0

-- the bytes that it leaves
abbrev pub add_of_width_leaves : Option Kind → List ℕ → ℕ → List ℕ → List ℕ → ℕ → List ℕ
add_of_width_leaves (some kind) s g ks vs work_len = add_leaves kind s g ks vs work_len
add_of_width_leaves none s g ks vs work_len = s

-- the outcome of a removal of values of some kind, or of none
abbrev pub remove_of_width : Option Kind → List ℕ → ℕ → List ℕ → List ℕ → ℕ → Outcome ℕ
remove_of_width (some kind) s g ks vs work_len = remove_outcome kind s g ks vs work_len
remove_of_width none s g ks vs work_len = no_kind_outcome s g work_len

-- the bytes that it leaves
abbrev pub remove_of_width_leaves : Option Kind → List ℕ → ℕ → List ℕ → List ℕ → ℕ → List ℕ
remove_of_width_leaves (some kind) s g ks vs work_len = remove_leaves kind s g ks vs work_len
remove_of_width_leaves none s g ks vs work_len = s
