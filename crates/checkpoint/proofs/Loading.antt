-- The call that loads a saved table: what each of its outcomes says, and the table that it leaves. The idea: each outcome follows from the conditions before it,
-- and an accepted one gives every field of the file, since a right layout leaves the group count alone open.
use Prim.Native.Nat.{ℕ, ◌*◌, ◌≤◌, ◌<◌}
use mathlib.Core.Path.{◌≡◌, sym, ap, ◌∙◌}
use mathlib.Core.Bool.{true, false}
use mathlib.Core.List.{List, ◌++◌}
use native.Mathlib.Omega.{arith}
use borrow.Author.Tests.{lt-ltb, le-ltb, ltb-false, not-false, eq-eqb, eqb-true}
use lib.Dec.{eqb}
use lib.ListN.{length, take, drop}
use Rattle.lists.proofs.Booleans.{both_false}
use Rattle.refusal.specs.Outcome.{accepted, refused, IsFirst}
use Rattle.refusal.proofs.Outcomes.{accepted_not, accepted-value, first_held}
use Rattle.output.proofs.Outputs.{left-refused, left-accepted}
use Rattle.trailer.specs.Trailer.{longest_file, ends_in}
use Rattle.record.specs.Sound.{sound}
use Rattle.checkpoint.specs.Saved.{table_mark, saved_length, group_count, record_distance, zero_field, wrong_layout}
use Rattle.checkpoint.specs.Calls.{load_grounds, load_outcome, load_leaves}
use Rattle.checkpoint.proofs.Records.{length-records}

-- the layout is right just where length, distance and zero are
pub layout_if : (f : List ℕ) → length f ≡ saved_length (group_count f) → record_distance f ≡ saved_length (group_count f) → zero_field f ≡ 0 → wrong_layout f ≡ false
unfolding wrong_layout
layout_if f l d z = rw (eq-eqb (length f) (saved_length (group_count f)) l, eq-eqb (record_distance f) (saved_length (group_count f)) d, eq-eqb (zero_field f) 0 z)

pub layout_only : (f : List ℕ) → wrong_layout f ≡ false → (length f ≡ saved_length (group_count f)) × (record_distance f ≡ saved_length (group_count f)) × (zero_field f ≡ 0)
unfolding wrong_layout
layout_only f e =
    let n = saved_length (group_count f) in
    let p = both_false _ _ e in
    let q = both_false _ _ p.1 in (
      eqb-true (length f) n (not-false (eqb (length f) n) p.0),
      eqb-true (record_distance f) n (not-false (eqb (record_distance f) n) q.0),
      eqb-true (zero_field f) 0 (not-false (eqb (zero_field f) 0) q.1),
    )

-- a file that is neither too long nor too short
pub record FileLength (f : List ℕ) : Type 0 where
  pub longest : length f ≤ longest_file
  pub shortest : 16 ≤ length f

module _ (f : List ℕ) (table_len : ℕ) where
  -- each condition, where none before it holds
  pub load-1 : longest_file < length f → load_outcome f table_len ≡ refused 1
  unfolding load_outcome load_grounds
  load-1 h = rw (lt-ltb longest_file (length f) h)

  pub load-2 : length f < 16 → load_outcome f table_len ≡ refused 2
  unfolding load_outcome load_grounds
  load-2 h = rw (le-ltb longest_file (length f) (omega arith), lt-ltb (length f) 16 h)

  module _ (l : FileLength f) where
    pub load-3 : ends_in table_mark f ≡ false → load_outcome f table_len ≡ refused 3
    unfolding load_outcome load_grounds
    load-3 m = rw (le-ltb longest_file (length f) l.longest, le-ltb (length f) 16 l.shortest, m)

    module _ (m : ends_in table_mark f ≡ true) where
      pub load-19 : wrong_layout f ≡ true → load_outcome f table_len ≡ refused 19
      unfolding load_outcome load_grounds
      load-19 w = rw (le-ltb longest_file (length f) l.longest, le-ltb (length f) 16 l.shortest, m, w)

      module _ (w : wrong_layout f ≡ false) where
        pub load-16 : table_len < 64 * group_count f → load_outcome f table_len ≡ refused 16
        unfolding load_outcome load_grounds
        load-16 h = rw (le-ltb longest_file (length f) l.longest, le-ltb (length f) 16 l.shortest, m, w, lt-ltb table_len (64 * group_count f) h)

        pub load-7 : 64 * group_count f ≤ table_len → sound f (group_count f) ≡ false → load_outcome f table_len ≡ refused 7
        unfolding load_outcome load_grounds
        load-7 h n = rw (le-ltb longest_file (length f) l.longest, le-ltb (length f) 16 l.shortest, m, w, le-ltb table_len (64 * group_count f) h, n)

        pub load_accepts : 64 * group_count f ≤ table_len → sound f (group_count f) ≡ true → load_outcome f table_len ≡ accepted (group_count f)
        unfolding load_outcome load_grounds
        load_accepts h ok = rw (le-ltb longest_file (length f) l.longest, le-ltb (length f) 16 l.shortest, m, w, le-ltb table_len (64 * group_count f) h, ok)

  -- the number given is that of the first condition that holds, in the card's order
  pub load_first : {n : ℕ} → load_outcome f table_len ≡ refused n → IsFirst n (load_grounds f table_len)
  unfolding load_outcome
  load_first = first_held (load_grounds f table_len) (group_count f)

-- none of the conditions holds of an accepted call
pub record AcceptedLoad (f : List ℕ) (table_len g : ℕ) : Type 0 where
  pub count_is : group_count f ≡ g
  pub length_is_lem : length f ≡ saved_length g
  pub distance_is : record_distance f ≡ saved_length g
  pub zero_is : zero_field f ≡ 0
  pub mark_is : ends_in table_mark f ≡ true
  pub longest : length f ≤ longest_file
  pub room : 64 * g ≤ table_len
  pub is_sound_lem : sound f g ≡ true

pub load_only : (f : List ℕ) (table_len : ℕ) {g : ℕ} → load_outcome f table_len ≡ accepted g → AcceptedLoad f table_len g
unfolding load_outcome load_grounds
load_only f table_len {g} e =
    let not_held : (n : ℕ) → _ = λ n. accepted_not n (load_grounds f table_len) (group_count f) e in
    let c : group_count f ≡ g = accepted-value (load_grounds f table_len) (group_count f) e in
    let y = layout_only f (not_held 19) in
    record {
      count_is = c;
      length_is_lem = y.0 ∙ ap saved_length c;
      distance_is = y.1 ∙ ap saved_length c;
      zero_is = y.2;
      mark_is = not-false (ends_in table_mark f) (not_held 3);
      longest = ltb-false longest_file (length f) (not_held 1);
      room = rw (sym c) (ltb-false table_len (64 * group_count f) (not_held 16));
      is_sound_lem = rw (sym c) (not-false (sound f (group_count f)) (not_held 7));
    }

-- a refused call leaves the table untouched
pub load_untouched : (f t : List ℕ) {n : ℕ} → load_outcome f (length t) ≡ refused n → load_leaves f t ≡ t
unfolding load_leaves
load_untouched f t e = left-refused (take (64 * group_count f) f) t e

-- an accepted one leaves the records and then the bytes that were there
pub load-leaves : (f t : List ℕ) {g : ℕ} → load_outcome f (length t) ≡ accepted g → load_leaves f t ≡ take (64 * g) f ++ drop (64 * g) t
unfolding load_leaves
load-leaves f t {g} e =
    let a = load_only f (length t) e in
    left-accepted (take (64 * group_count f) f) t e
    ∙ rw (a.count_is, length-records f g a.is_sound_lem)
