-- On bytes: right after an accepted add of the same columns that raised no held top and lowered no held finest power, a removal is accepted and gives the former
-- count and the former used bytes back. The idea: the sections are the former ones (`former`), and a sound table's used bytes are those of its sections.
use Prim.Native.Nat.{ℕ, ◌-◌, ◌*◌}
use mathlib.Core.Path.{◌≡◌, sym, ◌∙◌, ap, subst}
use mathlib.Core.Bool.{true, false}
use mathlib.Core.List.{List, ◌++◌}
use native.Mathlib.Nat.{mul_comm}
use borrow.Author.Tests.{not-false}
use lib.Dec.{T, ltb}
use lib.Pow.{are_bytes}
use lib.ListN.{length, take, drop, replicate}
use lib.Seq.{take_at}
use Rattle.lists.proofs.All.{All}
use Rattle.codec.proofs.Laws.{AreBytes, are_bytes_lem}
use Rattle.refusal.specs.Outcome.{accepted, outcome, condition}
use Rattle.refusal.proofs.Outcomes.{accepted_not}
use Rattle.columns.specs.declared.Kind.{Kind}
use Rattle.columns.specs.Columns.{rows_of}
use Rattle.record.specs.Sound.{sound}
use Rattle.record.specs.Section.{Section, sections, section_bytes}
use Rattle.table.specs.Calls.{lent_grounds, column_grounds, add_sections, add_grounds, add_outcome, add_leaves}
use Rattle.table.proofs.Lookup.{Rising, keys_in}
use Rattle.table.proofs.Proper.{Proper}
use Rattle.table.proofs.Bytes.{propers, length-section_bytes}
use Rattle.table.proofs.Accepted.{ProperTable, proper_bytes, AcceptedTable, add_left}
use Rattle.table.proofs.State.{length-sections, sound-rising, used-bytes}
use Rattle.remove.specs.Remaining.{remaining, too_few_rows, raises_top, total_exceeds, lowers_finest}
use Rattle.remove.specs.Calls.{patch_sections, remove_sections, remove_outcome, remove_leaves}
use Rattle.remove.proofs.Sound.{remove-bytes, lent_decides}
use Rattle.remove.proofs.Undo.{former, none-20, none-21, none-22}

module _ (kind : Kind) (s : List ℕ) (g : ℕ) (ks vs : List ℕ) (work_len n : ℕ) (e : add_outcome kind s g ks vs work_len ≡ accepted n) where
  abbrev patch : List Section
  patch = patch_sections kind ks vs

  abbrev after : List ℕ
  after = add_leaves kind s g ks vs work_len

  not_held : (k : ℕ) → condition k (add_grounds kind s g ks vs work_len) ≡ false
  not_held k = accepted_not k (add_grounds kind s g ks vs work_len) (length (add_sections kind s g ks vs)) e

  was_sound : T (sound s g)
  unfolding add_grounds column_grounds
  was_sound = subst T (sym (not-false (sound s g) (not_held 7))) tt

  -- what was lent for the add is lent for any call on as many bytes
  lent_again : (l : List ℕ) (x : ℕ) → length l ≡ length s → outcome (lent_grounds kind (length l) ks vs work_len) x ≡ accepted x
  unfolding add_grounds column_grounds
  lent_again l x h = rw (ap (ltb work_len) h ∙ not_held 8, not_held 9, not_held 10)

  module _ (t : ProperTable s g) (b : AreBytes ks) (no-higher : raises_top (sections s g) patch ≡ false) (no-finer : lowers_finest (sections s g) patch ≡ false) where
    left : AcceptedTable s (add_sections kind s g ks vs) after n
    left = add_left s g t kind ks vs work_len b e

    rising : Rising (keys_in (sections s g))
    rising = sound-rising s g t.is_sound_lem

    proper : All Proper (sections s g)
    proper = propers (sections s g) t.storable

    -- the former sections are back
    back-sections : remove_sections kind after n ks vs ≡ sections s g
    back-sections =
        ap (λ (ts : List Section). remaining ts patch) left.has-sections
        ∙ former (sections s g) (rows_of kind ks vs) rising proper no-higher no-finer

    back-outcome : remove_outcome kind after n ks vs work_len ≡ accepted g
    back-outcome =
        let rows = rows_of kind ks vs in
        lent_decides kind after n ks vs work_len left.table.is_sound_lem
        (ap (λ (ts : List Section). too_few_rows ts patch) left.has-sections ∙ none-20 (sections s g) rows rising)
        (ap (λ (ts : List Section). raises_top ts patch) left.has-sections ∙ none-21 (sections s g) rows rising)
        (ap (λ (ts : List Section). total_exceeds ts patch) left.has-sections ∙ none-22 (sections s g) rows rising proper no-higher no-finer)
        ∙ lent_again after (length (remove_sections kind after n ks vs)) left.same_length ∙ ap accepted (ap length back-sections ∙ length-sections s g)

    back-used : AreBytes s → take (64 * g) (remove_leaves kind after n ks vs work_len) ≡ take (64 * g) s
    back-used bs =
        let rest = replicate (64 * (n - g)) 0 ++ drop (64 * n) after in
        ap (take (64 * g)) (remove-bytes kind after n ks vs work_len back-outcome left.table ∙ ap (λ (l : List Section). section_bytes l ++ rest) back-sections)
        ∙ take_at (section_bytes (sections s g)) rest (64 * g) (length-section_bytes (sections s g) ∙ ap (λ (m : ℕ). 64 * m) (length-sections s g))
        ∙ sym (used-bytes s g t.is_sound_lem bs) ∙ ap (λ (m : ℕ). take m s) (mul_comm g 64)

-- Card 9: right after an accepted add of the same columns that raised no held section's top and lowered no held finest power a removal is accepted, and the former
-- count and used bytes are back
pub undone : (kind : Kind) (s : List ℕ) (g : ℕ) (ks vs : List ℕ) (work_len n : ℕ) → are_bytes s ≡ true → are_bytes ks ≡ true → add_outcome kind s g ks vs work_len ≡ accepted n
    → raises_top (sections s g) (patch_sections kind ks vs) ≡ false → lowers_finest (sections s g) (patch_sections kind ks vs) ≡ false
    → (remove_outcome kind (add_leaves kind s g ks vs work_len) n ks vs work_len ≡ accepted g)
    × (take (64 * g) (remove_leaves kind (add_leaves kind s g ks vs work_len) n ks vs work_len) ≡ take (64 * g) s)
undone kind s g ks vs work_len n bs bk e no-higher no-finer =
    let a = are_bytes_lem s (subst T (sym bs) tt) in
    let b = are_bytes_lem ks (subst T (sym bk) tt) in
    let t = proper_bytes s g a (was_sound kind s g ks vs work_len n e) in
    (back-outcome kind s g ks vs work_len n e t b no-higher no-finer, back-used kind s g ks vs work_len n e t b no-higher no-finer a)
