-- What was saved is loaded with the same records, and what was loaded is saved as the same file. The idea: the fields of a saved file are read back as they were
-- written, so only the room is asked for; and an accepted file is the file of its own records (`accepted_is_saved`).
use Prim.Native.Nat.{ℕ, ◌-◌, ◌*◌, ◌≤◌}
use mathlib.Core.Path.{◌≡◌, refl, sym, ap, ◌∙◌}
use mathlib.Core.Bool.{true, false}
use mathlib.Core.List.{List, [], ◌∷◌, ◌++◌}
use native.Mathlib.Omega.{arith}
use borrow.Author.Tests.{eqb-true, le-ltb}
use lib.ListN.{length, take, drop, take-append-drop}
use lib.Seq.{take_at}
use Rattle.codec.specs.Bytes.{number, bytes}
use Rattle.codec.proofs.Laws.{AreBytes}
use Rattle.refusal.specs.Outcome.{accepted, refused, outcome}
use Rattle.output.specs.Output.{output_ground}
use Rattle.trailer.specs.Trailer.{longest_file, trailer_field, trailer_of}
use Rattle.trailer.proofs.Laws.{Fields, fields_back, trailer_is}
use Rattle.record.specs.Layout.{records, most_groups}
use Rattle.record.specs.Sound.{sound}
use Rattle.checkpoint.specs.Saved.{table_mark, saved_length, saved_table, group_count, wrong_layout}
use Rattle.checkpoint.specs.Calls.{most_file_groups, save_outcome, save_leaves, load_grounds, load_outcome, load_leaves}
use Rattle.checkpoint.proofs.Records.{length-records, same-records, still_sound}
use Rattle.checkpoint.proofs.Saving.{save-18, save_accepts, save_only, length-saved_table, file_saved, save-leaves}
use Rattle.checkpoint.proofs.Loading.{layout_if, load_only, load-leaves}

-- ---- a table that can be saved, loaded into any table with room
module _ (s : List ℕ) (g : ℕ) (ok : sound s g ≡ true) (few : g ≤ most_file_groups) where
  -- its trailer is read back as it was written
  pub saved_fields : Fields (saved_table s g) g (saved_length g) 0 table_mark
  unfolding saved_table
  saved_fields = fields_back g (saved_length g) 0 table_mark refl (take (64 * g) s) (omega arith) (omega arith) (omega arith)

  saved_layout : wrong_layout (saved_table s g) ≡ false
  saved_layout =
      let e = ap saved_length saved_fields.first_is in
      layout_if (saved_table s g) (length-saved_table s g ok ∙ sym e) (saved_fields.second_is ∙ sym e) saved_fields.third_is

  saved_sound : sound (saved_table s g) (group_count (saved_table s g)) ≡ true
  unfolding saved_table
  saved_sound = ap (sound (saved_table s g)) saved_fields.first_is ∙ still_sound s g ok (trailer_of g (saved_length g) 0 table_mark)

  -- only the room is left to be asked for
  pub saved_outcome : (table_len : ℕ) → load_outcome (saved_table s g) table_len ≡ outcome (output_ground table_len (64 * g) ∷ []) g
  unfolding load_outcome load_grounds
  saved_outcome table_len =
      let l = length-saved_table s g ok in
      rw (
        le-ltb longest_file (length (saved_table s g)) (omega arith),
        le-ltb (length (saved_table s g)) 16 (omega arith),
        saved_fields.mark_is,
        saved_layout,
        saved_sound,
        saved_fields.first_is,
      )

  -- where there is room it is accepted with its group count
  pub saved_loads : (table_len : ℕ) → 64 * g ≤ table_len → load_outcome (saved_table s g) table_len ≡ accepted g
  saved_loads table_len h = saved_outcome table_len ∙ rw (le-ltb table_len (64 * g) h)

  -- and leaves the records that the saved table had, before the bytes that were there
  pub saved_left : (t : List ℕ) → 64 * g ≤ length t → load_leaves (saved_table s g) t ≡ take (64 * g) s ++ drop (64 * g) t
  unfolding saved_table
  saved_left t h =
      load-leaves (saved_table s g) t (saved_loads (length t) h)
      ∙ ap (λ (rs : List ℕ). rs ++ drop (64 * g) t) (take_at (take (64 * g) s) (trailer_of g (saved_length g) 0 table_mark) (64 * g) (length-records s g ok))

-- the same of what the call that saves wrote
module _ (s : List ℕ) (g : ℕ) (out : List ℕ) {n : ℕ} (e : save_outcome s g (length out) ≡ accepted n) (t : List ℕ) (h : 64 * g ≤ length t) where
  -- the file: the output's first n bytes
  abbrev pub file_in : List ℕ
  file_in = take n (save_leaves s g out)

  pub save_then_load : load_outcome file_in (length t) ≡ accepted g
  save_then_load = let a = save_only s g (length out) e in rw (file_saved s g out e) (saved_loads s g a.is_sound_lem a.few_groups (length t) h)

  pub save_then_left : load_leaves file_in t ≡ take (64 * g) s ++ drop (64 * g) t
  save_then_left = let a = save_only s g (length out) e in rw (file_saved s g out e) (saved_left s g a.is_sound_lem a.few_groups t h)

  pub save_then_records : records (load_leaves file_in t) g ≡ records s g
  save_then_records =
      let a = save_only s g (length out) e in
      ap (λ (b : List ℕ). records b g) save_then_left ∙ same-records s g a.is_sound_lem (drop (64 * g) t)

-- ---- a file that was accepted, saved again from the table that it was loaded into
module _ (f : List ℕ) (b : AreBytes f) (table_len : ℕ) {g : ℕ} (e : load_outcome f table_len ≡ accepted g) where
  -- it is the file of its own records
  pub accepted_is_saved : f ≡ saved_table f g
  unfolding saved_table bytes number
  accepted_is_saved =
      let a = load_only f table_len e in
      let n : length f - 16 ≡ 64 * g = omega (arith, a.length_is_lem) in
      let m : bytes 4 (trailer_field f 4) ≡ table_mark = ap (bytes 4) (eqb-true (trailer_field f 4) (number table_mark) a.mark_is) in
      let t : drop (64 * g) f ≡ trailer_of g (saved_length g) 0 table_mark =
      ap (λ (i : ℕ). drop i f) (sym n) ∙ trailer_is f b (omega (arith, a.length_is_lem)) ∙ rw (a.count_is, a.distance_is, a.zero_is, m) in
      sym (take-append-drop (64 * g) f) ∙ ap (λ (x : List ℕ). take (64 * g) f ++ x) t

module _ (f : List ℕ) (b : AreBytes f) (t : List ℕ) {g : ℕ} (e : load_outcome f (length t) ≡ accepted g) where
  -- the table is sound
  loaded_sound : sound (load_leaves f t) g ≡ true
  loaded_sound = let a = load_only f (length t) e in rw (load-leaves f t e) (still_sound f g a.is_sound_lem (drop (64 * g) t))

  -- and its file is the one that was loaded
  loaded_file : saved_table (load_leaves f t) g ≡ f
  unfolding saved_table
  loaded_file =
      let a = load_only f (length t) e in
      let rs = take (64 * g) f in
      ap (λ (x : List ℕ). x ++ trailer_of g (saved_length g) 0 table_mark) (ap (take (64 * g)) (load-leaves f t e) ∙ take_at rs (drop (64 * g) t) (64 * g) (length-records f g a.is_sound_lem))
      ∙ sym (accepted_is_saved f b (length t) e)

  module _ (out : List ℕ) (h : length f ≤ length out) where
    pub load_then_save : save_outcome (load_leaves f t) g (length out) ≡ accepted (length f)
    load_then_save =
        let a = load_only f (length t) e in
        save_accepts (load_leaves f t) g (length out) loaded_sound (omega (arith, a.length_is_lem, a.longest)) (omega (arith, a.length_is_lem)) ∙ ap accepted (sym a.length_is_lem)

    pub load_then_file : save_leaves (load_leaves f t) g out ≡ f ++ drop (length f) out
    load_then_file = save-leaves (load_leaves f t) g out load_then_save ∙ ap (λ (x : List ℕ). x ++ drop (length x) out) loaded_file

-- ---- a full table cannot be saved, however long the output: its file would be longer than one that is read
pub full_not_saved : (s : List ℕ) (out_len : ℕ) → sound s most_groups ≡ true → save_outcome s most_groups out_len ≡ refused 18
full_not_saved s out_len ok = save-18 s most_groups out_len ok (omega arith)
