-- What an accepted removal leaves: a sound table that holds the remaining sections; the bytes that they no longer use are zero, and those after them as they were.
-- The idea: where 22 does not hold the remaining sections can be stored, and a removal writes them over the table with its records zeroed.
use Prim.Native.Nat.{ℕ, zero, suc, ◌+◌, ◌-◌, ◌*◌, ◌≤◌}
use mathlib.Core.Path.{◌≡◌, refl, sym, ◌∙◌, ap, ap₂, subst}
use mathlib.Core.Bool.{true, false}
use mathlib.Core.List.{List, ◌++◌}
use native.Mathlib.Omega.{arith}
use native.Mathlib.Nat.{suc-sub-suc, sub-zero, zero-sub, le_trans}
use borrow.Author.Tests.{not-false}
use lib.Dec.{T}
use lib.Ieee.Bits.{is_true}
use lib.Pow.{are_bytes}
use lib.ListN.{length, take, drop, replicate, length-append, length-drop, length-replicate}
use lib.Seq.{drop-drop, drop-append-le, drop-append-add}
use Rattle.codec.proofs.Laws.{are_bytes_lem}
use Rattle.refusal.specs.Outcome.{Outcome, accepted, outcome, condition}
use Rattle.refusal.proofs.Outcomes.{accepted_not, accepted-value}
use Rattle.columns.specs.declared.Kind.{Kind}
use Rattle.record.specs.Layout.{capacity}
use Rattle.record.specs.Sound.{sound}
use Rattle.record.specs.Section.{Section, sections, section_bytes, written}
use Rattle.record.proofs.Sound.{sound_parts}
use Rattle.table.specs.Calls.{lent_grounds, column_grounds}
use Rattle.table.proofs.Accepted.{ProperTable, proper_bytes, AcceptedTable, written-left}
use Rattle.table.proofs.State.{length-sections, sound-rising}
use Rattle.table.proofs.Bytes.{length-section_bytes, used-written}
use Rattle.remove.specs.Remaining.{too_few_rows, raises_top, total_exceeds}
use Rattle.remove.specs.Calls.{patch_sections, patch_grounds, remove_grounds, remove_sections, remove_outcome, zeroed, leaves_fewer, remove_leaves}
use Rattle.remove.proofs.Remaining.{remaining-rising, remaining-length, remaining_storable}

-- ---- the zeroed bytes
drop-zeros : (m n : ℕ) → drop m (replicate {A = ℕ} n 0) ≡ replicate (n - m) 0
drop-zeros zero n = rw sub-zero
drop-zeros (suc m) zero = rw zero-sub
drop-zeros (suc m) (suc n) = rw suc-sub-suc (drop-zeros m n)

length-zeroed : (g : ℕ) (s : List ℕ) → g ≤ capacity (length s) → length (zeroed g s) ≡ length s
length-zeroed g s h = length-append (replicate (64 * g) 0) (drop (64 * g) s) ∙ rw (length-replicate {A = ℕ} (64 * g) 0, length-drop (64 * g) s) (omega arith)

drop-zeroed : (n g : ℕ) (s : List ℕ) → n ≤ g → drop (64 * n) (zeroed g s) ≡ replicate (64 * (g - n)) 0 ++ drop (64 * g) s
drop-zeroed n g s h =
    let e : 64 * g - 64 * n ≡ 64 * (g - n) = omega arith in
    drop-append-le (64 * n) (replicate (64 * g) 0) (drop (64 * g) s) (rw length-replicate (omega arith))
    ∙ ap (λ (l : List ℕ). l ++ drop (64 * g) s) (drop-zeros (64 * n) (64 * g) ∙ ap (λ (m : ℕ). replicate m 0) e)

-- the sections us written at the front, and zeros from there to the end of the former g records
pub vacated : (us : List Section) (s : List ℕ) (g : ℕ) → length us ≤ g
    → take (length us * 64) (written us s) ++ (replicate (g * 64 - length us * 64) 0 ++ drop (g * 64) (written us s)) ≡ written us (zeroed g s)
vacated us s g h =
    let n = length us in
    let at : n * 64 ≡ 64 * n = omega arith in
    let zeros : g * 64 - n * 64 ≡ 64 * (g - n) = omega arith in
    let past : g * 64 ≡ length (section_bytes us) + 64 * (g - n) = rw length-section_bytes (omega arith) in
    let rest : drop (g * 64) (written us s) ≡ drop (64 * g) s =
    ap (λ (m : ℕ). drop m (written us s)) past
    ∙ drop-append-add (section_bytes us) (drop (64 * n) s) (64 * (g - n))
    ∙ rw drop-drop (ap (λ (m : ℕ). drop m s) (whole n refl)) in
    ap₂ ◌++◌ (ap (λ (m : ℕ). take m (written us s)) at ∙ used-written us s)
    (ap₂ (λ (m : ℕ) (l : List ℕ). replicate m 0 ++ l) zeros rest ∙ sym (drop-zeroed n g s h))
  where
    whole : (n : ℕ) → length us ≡ n → 64 * n + 64 * (g - n) ≡ 64 * g
    whole n e = omega arith

-- the records of a table fit its bytes
proper_room : (s : List ℕ) (g : ℕ) → ProperTable s g → g ≤ capacity (length s)
proper_room s g t = let p = sound_parts s g t.is_sound_lem in omega arith

-- ---- accepted removals
module _ (kind : Kind) (s : List ℕ) (g : ℕ) (ks vs : List ℕ) (work_len : ℕ) where
  abbrev us : List Section
  us = remove_sections kind s g ks vs

  abbrev after : List ℕ
  after = remove_leaves kind s g ks vs work_len

  module _ {n : ℕ} (e : remove_outcome kind s g ks vs work_len ≡ accepted n) where
    not_held : (k : ℕ) → condition k (remove_grounds kind s g ks vs work_len) ≡ false
    not_held k = accepted_not k (remove_grounds kind s g ks vs work_len) (length us) e

    -- the table was sound
    pub removed-sound : T (sound s g)
    unfolding remove_grounds column_grounds
    removed-sound = subst T (sym (not-false (sound s g) (not_held 7))) tt

    -- it had the rows
    pub removed_enough : too_few_rows (sections s g) (patch_sections kind ks vs) ≡ false
    unfolding remove_grounds column_grounds patch_grounds
    removed_enough = not_held 20

    removed-within : total_exceeds (sections s g) (patch_sections kind ks vs) ≡ false
    unfolding remove_grounds column_grounds patch_grounds
    removed-within = not_held 22

    module _ (t : ProperTable s g) where
      shorter : length us ≤ g
      shorter = omega (arith, remaining-length (sections s g) (patch_sections kind ks vs), length-sections s g)

      -- the remaining sections, written over the zeroed table
      pub remove-left : AcceptedTable (zeroed g s) us after n
      remove-left =
          let a = remaining_storable (sections s g) (patch_sections kind ks vs) t.storable removed-within in
          let r = remaining-rising (sections s g) (patch_sections kind ks vs) (sound-rising s g t.is_sound_lem) in
          let h : length us ≤ capacity (length (zeroed g s)) = rw (length-zeroed g s (proper_room s g t)) (le_trans shorter (proper_room s g t)) in
          subst (λ (o : Outcome ℕ). AcceptedTable (zeroed g s) us (leaves_fewer o us g s) n) (sym e)
          (subst (AcceptedTable (zeroed g s) us (written us (zeroed g s))) (accepted-value (remove_grounds kind s g ks vs work_len) (length us) e) (written-left (zeroed g s) us a r h))

      pub remove-length : length after ≡ length s
      remove-length = remove-left.same_length ∙ length-zeroed g s (proper_room s g t)

      pub remove-bytes : after ≡ section_bytes us ++ (replicate (64 * (g - n)) 0 ++ drop (64 * g) s)
      remove-bytes =
          remove-left.is_written
          ∙ ap (λ (l : List ℕ). section_bytes us ++ l) (drop-zeroed (length us) g s shorter ∙ ap (λ (x : ℕ). replicate (64 * (g - x)) 0 ++ drop (64 * g) s) remove-left.groups)

-- Card 9: an accepted removal leaves a sound table that holds the remaining sections; the vacated bytes are zero, and those after them as they were
pub leaves-remaining : (kind : Kind) (s : List ℕ) (g : ℕ) (ks vs : List ℕ) (work_len n : ℕ) → are_bytes s ≡ true → remove_outcome kind s g ks vs work_len ≡ accepted n
    → (sound (remove_leaves kind s g ks vs work_len) n ≡ true)
    × (sections (remove_leaves kind s g ks vs work_len) n ≡ remove_sections kind s g ks vs)
    × (remove_leaves kind s g ks vs work_len ≡ section_bytes (remove_sections kind s g ks vs) ++ (replicate (64 * (g - n)) 0 ++ drop (64 * g) s))
leaves-remaining kind s g ks vs work_len n b e =
    let t = proper_bytes s g (are_bytes_lem s (subst T (sym b) tt)) (removed-sound kind s g ks vs work_len e) in
    let a = remove-left kind s g ks vs work_len e t in
    (is_true (sound (remove_leaves kind s g ks vs work_len) n) a.table.is_sound_lem, a.has-sections, remove-bytes kind s g ks vs work_len e t)

-- on a sound table, where none of 20, 21 and 22 holds, what is lent decides
pub lent_decides : (kind : Kind) (s : List ℕ) (g : ℕ) (ks vs : List ℕ) (work_len : ℕ) → T (sound s g)
    → too_few_rows (sections s g) (patch_sections kind ks vs) ≡ false
    → raises_top (sections s g) (patch_sections kind ks vs) ≡ false
    → total_exceeds (sections s g) (patch_sections kind ks vs) ≡ false
    → remove_outcome kind s g ks vs work_len ≡ outcome (lent_grounds kind (length s) ks vs work_len) (length (remove_sections kind s g ks vs))
unfolding remove_grounds column_grounds patch_grounds
lent_decides kind s g ks vs work_len t a b c = rw (is_true (sound s g) t, a, b, c)
