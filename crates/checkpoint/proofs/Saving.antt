-- The call that saves a table: what each of its outcomes says, and the file that it leaves. The idea: an outcome says which conditions hold, and the file is the
-- records and the trailer, put in place one after the other.
use Prim.Native.Nat.{ℕ, ◌*◌, ◌≤◌, ◌<◌}
use mathlib.Core.Path.{◌≡◌, refl, sym, ap, ◌∙◌}
use mathlib.Core.Bool.{true, false}
use mathlib.Core.List.{List, ◌++◌}
use native.Mathlib.Omega.{arith}
use borrow.Author.Tests.{lt-ltb, le-ltb, ltb-false, not-false}
use native.Mathlib.Nat.{zero-add}
use lib.ListN.{length, take, drop, length-append}
use lib.Seq.{sets}
use Rattle.codec.proofs.Front.{front_set}
use Rattle.codec.proofs.Laws.{sets_then}
use Rattle.refusal.specs.Outcome.{accepted, refused, IsFirst}
use Rattle.refusal.proofs.Outcomes.{accepted_not, accepted-value, accepted-within, first_held}
use Rattle.output.proofs.Outputs.{left-refused, left-accepted, left_front, left_rest}
use Rattle.trailer.specs.Trailer.{trailer_of}
use Rattle.trailer.proofs.Laws.{length-trailer_of}
use Rattle.record.specs.Sound.{sound}
use Rattle.checkpoint.specs.Saved.{table_mark, saved_length, saved_table}
use Rattle.checkpoint.specs.Calls.{most_file_groups, save_grounds, save_outcome, save_leaves}
use Rattle.checkpoint.proofs.Records.{length-records}

module _ (s : List ℕ) (g out_len : ℕ) where
  -- each condition, where none before it holds
  pub save-7 : sound s g ≡ false → save_outcome s g out_len ≡ refused 7
  unfolding save_outcome save_grounds
  save-7 n = rw n

  pub save-18 : sound s g ≡ true → most_file_groups < g → save_outcome s g out_len ≡ refused 18
  unfolding save_outcome save_grounds
  save-18 ok h = rw (ok, lt-ltb most_file_groups g h)

  pub save-16 : sound s g ≡ true → g ≤ most_file_groups → out_len < saved_length g → save_outcome s g out_len ≡ refused 16
  unfolding save_outcome save_grounds
  save-16 ok h k = rw (ok, le-ltb most_file_groups g h, lt-ltb out_len (saved_length g) k)

  pub save_accepts : sound s g ≡ true → g ≤ most_file_groups → saved_length g ≤ out_len → save_outcome s g out_len ≡ accepted (saved_length g)
  unfolding save_outcome save_grounds
  save_accepts ok h k = rw (ok, le-ltb most_file_groups g h, le-ltb out_len (saved_length g) k)

  -- the number given is that of the first condition that holds, in the card's order
  pub save_first : {n : ℕ} → save_outcome s g out_len ≡ refused n → IsFirst n (save_grounds s g out_len)
  unfolding save_outcome
  save_first = first_held (save_grounds s g out_len) (saved_length g)

-- none of the conditions holds of an accepted call, and its answer is 64g + 16
pub record AcceptedSave (s : List ℕ) (g out_len n : ℕ) : Type 0 where
  pub is_sound_lem : sound s g ≡ true
  pub few_groups : g ≤ most_file_groups
  pub room : n ≤ out_len
  pub length_is_lem : n ≡ saved_length g

pub save_only : (s : List ℕ) (g out_len : ℕ) {n : ℕ} → save_outcome s g out_len ≡ accepted n → AcceptedSave s g out_len n
unfolding save_outcome save_grounds
save_only s g out_len e = record {
  is_sound_lem = not-false (sound s g) (accepted_not 7 (save_grounds s g out_len) (saved_length g) e);
  few_groups = ltb-false most_file_groups g (accepted_not 18 (save_grounds s g out_len) (saved_length g) e);
  room = accepted-within 16 (save_grounds s g out_len) out_len (saved_length g) refl e;
  length_is_lem = sym (accepted-value (save_grounds s g out_len) (saved_length g) e);
}

-- a refused call leaves the output untouched
pub save_untouched : (s : List ℕ) (g : ℕ) (out : List ℕ) {n : ℕ} → save_outcome s g (length out) ≡ refused n → save_leaves s g out ≡ out
unfolding save_leaves
save_untouched s g out e = left-refused (saved_table s g) out e

module _ (s : List ℕ) (g : ℕ) (ok : sound s g ≡ true) where
  pub length-saved_table : length (saved_table s g) ≡ saved_length g
  unfolding saved_table
  length-saved_table =
      length-append (take (64 * g) s) (trailer_of g (saved_length g) 0 table_mark)
      ∙ omega (arith, length-records s g ok, length-trailer_of g (saved_length g) 0 table_mark refl)

  -- the records and then the trailer, put in place, are the file at the front
  pub saved_set : (out a b : List ℕ) → saved_length g ≤ length out → a ≡ take (64 * g) s ++ drop (64 * g) out → b ≡ sets a (64 * g) (trailer_of g (saved_length g) 0 table_mark)
      → b ≡ saved_table s g ++ drop (length (saved_table s g)) out
  unfolding saved_table
  saved_set out a b h p q =
      let rs = take (64 * g) s in
      let t = trailer_of g (saved_length g) 0 table_mark in
      let front : a ≡ sets out 0 rs = p ∙ ap (λ (k : ℕ). rs ++ drop k out) (sym (length-records s g ok)) ∙ sym (front_set out rs (omega (arith, length-records s g ok))) in
      let whole : b ≡ sets out 0 (saved_table s g) = sets_then out 0 (64 * g) rs t front (length-records s g ok) (q ∙ ap (λ (i : ℕ). sets a i t) (sym (zero-add (64 * g)))) in
      whole ∙ front_set out (saved_table s g) (omega (arith, length-saved_table))

module _ (s : List ℕ) (g : ℕ) (out : List ℕ) {n : ℕ} (e : save_outcome s g (length out) ≡ accepted n) where
  -- an accepted one leaves the file and then the bytes that were there
  pub save-leaves : save_leaves s g out ≡ saved_table s g ++ drop (length (saved_table s g)) out
  unfolding save_leaves
  save-leaves = left-accepted (saved_table s g) out e

  length_saved : length (saved_table s g) ≡ n
  length_saved = let a = save_only s g (length out) e in length-saved_table s g a.is_sound_lem ∙ sym a.length_is_lem

  -- so the file is the output's first n bytes
  pub file_saved : take n (save_leaves s g out) ≡ saved_table s g
  unfolding save_leaves
  file_saved = left_front (saved_table s g) out e length_saved

  -- and the bytes after it stay as they were
  pub bytes-after-file : drop n (save_leaves s g out) ≡ drop n out
  unfolding save_leaves
  bytes-after-file = left_rest (saved_table s g) out e length_saved
