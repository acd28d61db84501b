-- Saving and loading say what their contracts say, and each gives back what the other took.
use Prim.Native.Nat.{ℕ, ◌*◌, ◌≤◌}
use mathlib.Core.Path.{◌≡◌, refl, sym, ap, ap₂, ◌∙◌}
use mathlib.Core.List.{List, ◌++◌}
use lib.IntN.{ℤ}
use lib.ListN.{length, take, drop}
use lib.Seq.{take_at, drop_at}
use Rattle.refusal.specs.Outcome.{accepted}
use Rattle.record.specs.Layout.{records}
use Rattle.checkpoint.specs.Calls.{save_outcome, save_leaves, load_outcome, load_leaves}
use Rattle.checkpoint.proofs.Records.{length-records}
use Rattle.checkpoint.proofs.Saving.{save_only}
use Rattle.checkpoint.proofs.Reloading.{save_then_load, save_then_left, save_then_records, load_then_save, load_then_file}
use Rattle.codec.proofs.Laws.{are_bytes_lem}
use Rattle.exports.specs.Calls.{returns_count}
use Rattle.conformance.specs.Called.{count_said}
use Rattle.conformance.specs.Checkpoints.{Checkpoints}
use Rattle.conformance.proofs.Steps.{count-back, save_not_0, load_said}

-- the number that a save returns says its outcome
save_said : (s : List ℕ) (g out_len : ℕ) {z : ℤ} → z ≡ returns_count (save_outcome s g out_len) → count_said z ≡ save_outcome s g out_len
save_said s g out_len q = count-back (save_outcome s g out_len) (save_not_0 s g out_len) q

-- over what is lent
module _ (s : List ℕ) (g : ℕ) (out t : List ℕ) {n : ℕ} (e : save_outcome s g (length out) ≡ accepted n) (room : 64 * g ≤ length t) where
  loaded_back : let f = take n (save_leaves s g out) in
      (load_outcome f (length t) ≡ accepted g) × (records (load_leaves f t) g ≡ records s g)
      × (take (64 * g) (load_leaves f t) ≡ take (64 * g) s) × (drop (64 * g) (load_leaves f t) ≡ drop (64 * g) t)
  loaded_back =
      let l = save_then_left s g out e t room in
      let n = length-records s g (save_only s g (length out) e).is_sound_lem in (
        save_then_load s g out e t room,
        save_then_records s g out e t room,
        ap (take (64 * g)) l ∙ take_at (take (64 * g) s) (drop (64 * g) t) (64 * g) n,
        ap (drop (64 * g)) l ∙ drop_at (take (64 * g) s) (drop (64 * g) t) (64 * g) n,
      )

pub checkpoints : Checkpoints
checkpoints = record {
  of_save = λ κs a z e l. l;
  of_girth_save = λ κs a z e l. l;
  of_load = λ κs b z f l. l;
  of_girth_load = λ κs b z f l. l;
  records_back = λ κs a z e l n q κs' b y f m p room.
      let s = a.0.now in
      let g = a.1.0 in
      let out = a.1.1.0.now in
      let t = b.1.0.now in
      let is = loaded_back s g out t (sym (save_said s g (length out) l.0) ∙ q) room in
      let file : b.0.now ≡ take n (save_leaves s g out) = p ∙ ap (take n) l.1 in
      let left : f.1.0.now ≡ load_leaves (take n (save_leaves s g out)) t = m.1 ∙ ap (λ (x : List ℕ). load_leaves x t) file in (
        load_said b.0.now (length t) m.0 ∙ ap (λ (x : List ℕ). load_outcome x (length t)) file ∙ is.0,
        ap (λ (x : List ℕ). records x g) left ∙ is.1,
        ap (take (64 * g)) left ∙ is.2,
        ap (drop (64 * g)) left ∙ is.3,
      );
  file_back = λ κs b y f m bs g q κs' a z e l p r room.
      let file = b.0.now in
      let t = b.1.0.now in
      let out = a.1.1.0.now in
      let byte = are_bytes_lem file bs in
      let o : load_outcome file (length t) ≡ accepted g = sym (load_said file (length t) m.0) ∙ q in
      let s : a.0.now ≡ load_leaves file t = p ∙ m.1 in
      let left : e.1.1.0.now ≡ file ++ drop (length file) out =
      l.1 ∙ ap₂ (λ (x : List ℕ) (k : ℕ). save_leaves x k out) s r ∙ load_then_file file byte t o out room in (
        save_said a.0.now a.1.0 (length out) l.0 ∙ ap₂ (λ (x : List ℕ) (k : ℕ). save_outcome x k (length out)) s r ∙ load_then_save file byte t o out room,
        ap (take (length file)) left ∙ take_at file (drop (length file) out) (length file) refl,
        ap (drop (length file)) left ∙ drop_at file (drop (length file) out) (length file) refl,
      );
}
