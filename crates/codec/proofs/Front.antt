-- Bytes put at the front of a buffer, or of the part of it from some place on, are a store.
use Prim.Native.Nat.{ℕ, ◌+◌, ◌-◌, ◌≤◌}
use mathlib.Core.Path.{◌≡◌, sym, ap, ◌∙◌}
use mathlib.Core.List.{List, ◌++◌, append_assoc, append-nil}
use native.Mathlib.Omega.{arith}
use native.Mathlib.Nat.{zero-add}
use lib.ListN.{length, take, drop, length-drop, drop_of_length-le}
use lib.Seq.{sets, sets-eq, take_all, drop-drop}
use borrow.Rule.Slice.PartMut.{mid_of, put_mid}

pub front_set : (s w : List ℕ) → length w ≤ length s → sets s 0 w ≡ w ++ drop (length w) s
front_set s w h = sets-eq w s 0 (omega arith) ∙ ap (λ (n : ℕ). w ++ drop n s) (zero-add (length w))

pub part_set : (s w : List ℕ) (a : ℕ) → a + length w ≤ length s → put_mid a (length s - a) s (w ++ drop (length w) (mid_of a (length s - a) s)) ≡ sets s a w
part_set s w a h =
    let whole : mid_of a (length s - a) s ≡ drop a s = take_all (length s - a) (drop a s) (rw length-drop (omega arith)) in
    let none = drop_of_length-le (drop a s) {i = length s - a} (rw length-drop (omega arith)) in
    rw (whole, none, append-nil, drop-drop, sets-eq w s a h) (sym (append_assoc (take a s) w (drop (a + length w) s)))
