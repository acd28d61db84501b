-- What the outcome of an inner call says of its answer: a number comes back as it is, an accepted group count is small, a line's sum is finite.
use Prim.Native.Nat.{ℕ, ◌/◌, ◌≤◌}
use native.Mathlib.Nat.{min-le_right}
use mathlib.Core.Path.{◌≡◌, refl, sym, ap, subst, ◌∙◌}
use mathlib.Core.List.{List}
use native.Mathlib.Omega.{arith}
use lib.Dec.{ltb}
use lib.IntN.{ℤ, pos, neg_ℤ}
use lib.ListN.{length}
use mir.Syntax.{w32, w64}
use mir.Val.{SFits, to_z, of_z}
use mir.Facts.{sfits_widen}
use mir.ValLaws.{to_z-of_z}
use Rattle.refusal.specs.Outcome.{Outcome, accepted, refused, Ground, outcome, condition}
use Rattle.refusal.proofs.Outcomes.{accepted-value, accepted-within}
use Rattle.columns.specs.declared.Kind.{Kind}
use Rattle.record.specs.Layout.{most_groups, capacity}
use Rattle.record.specs.Section.{sections}
use Rattle.record.proofs.Sound.{sound_parts}
use Rattle.table.specs.Calls.{add_sections, column_grounds, add_grounds, add_outcome, merge_sections, merge_grounds, merge_outcome}
use Rattle.table.proofs.State.{length-sections}
use Rattle.remove.specs.Calls.{patch_sections, remove_sections, remove_grounds, remove_outcome}
use Rattle.remove.proofs.Remaining.{remaining-length}
use Rattle.remove.proofs.Sound.{removed-sound}
use Rattle.exports.specs.Calls.{returned}

-- a refusal's number, read back
pub refusing : {A : Type 0} (f : A → ℕ) {o : Outcome A} (n : ℕ) (z : ℤ) → SFits w64 z → z ≡ neg_ℤ (pos n) → refused n ≡ o → to_z w64 (of_z w64 z) ≡ returned f o
refusing f n z fits q e = to_z-of_z w64 z fits ∙ q ∙ ap (returned f) e

-- a figure of 32 bits, widened
pub widens : (z : ℤ) → SFits w32 z → SFits w64 (to_z w32 (of_z w32 z))
widens z fits = subst (SFits w64) (sym (to_z-of_z w32 z fits)) (sfits_widen tt fits)

pub widened : (z : ℤ) → SFits w32 z → to_z w64 (of_z w64 (to_z w32 (of_z w32 z))) ≡ z
widened z fits = ap (λ (y : ℤ). to_z w64 (of_z w64 y)) (to_z-of_z w32 z fits) ∙ to_z-of_z w64 z (sfits_widen tt fits)

-- an accepted call gives no more groups than a table can have, if it refuses with 12 those that have no room
module _ (gs : List Ground) (len m : ℕ) (room : condition 12 gs ≡ ltb (capacity len) m) where
  groups-le : {n : ℕ} → outcome gs m ≡ accepted n → n ≤ most_groups
  groups-le e = omega (arith, accepted-within 12 gs (capacity len) m room e, min-le_right (len / 64) most_groups)

pub add-groups : (kind : Kind) (s : List ℕ) (g : ℕ) (ks vs : List ℕ) (work_len : ℕ) {n : ℕ} → add_outcome kind s g ks vs work_len ≡ accepted n → n ≤ most_groups
unfolding add_grounds column_grounds
add-groups kind s g ks vs work_len = groups-le (add_grounds kind s g ks vs work_len) (length s) (length (add_sections kind s g ks vs)) refl

pub merge-groups : (s : List ℕ) (g : ℕ) (s' : List ℕ) (g' : ℕ) {n : ℕ} → merge_outcome s g s' g' ≡ accepted n → n ≤ most_groups
unfolding merge_grounds
merge-groups s g s' g' = groups-le (merge_grounds s g s' g') (length s) (length (merge_sections s g s' g')) refl

-- a removal gives no more than the table had
pub remove-groups : (kind : Kind) (s : List ℕ) (g : ℕ) (ks vs : List ℕ) (work_len : ℕ) {n : ℕ} → remove_outcome kind s g ks vs work_len ≡ accepted n → n ≤ most_groups
remove-groups kind s g ks vs work_len e =
    let p = sound_parts s g (removed-sound kind s g ks vs work_len e) in
    let v = accepted-value (remove_grounds kind s g ks vs work_len) (length (remove_sections kind s g ks vs)) e in
    omega (arith, remaining-length (sections s g) (patch_sections kind ks vs), length-sections s g)
