-- What bytes put into a list from a place on leave.
use Rattle.std.proofs.Common.{◌≡◌, ℕ, suc, ◌+◌, ◌≤◌, List, [], ◌∷◌, ◌++◌, length, take, drop, set, refl, sym, ap, append_assoc, length-append, arith}
use Rattle.std.proofs.lemmas.List.{take_at, drop-drop, length-take-le}
use Rattle.std.proofs.lemmas.List.Edits.{sets, sets-eq}
use borrow.Rule.Slice.PartMut.{put_mid}

-- a part written whole
pub part_put : (at k : ℕ) (s p w : List ℕ) → p ≡ w → length w ≡ k → at + k ≤ length s → put_mid at k s p ≡ sets s at w
part_put at k s p w e l h = rw (e, drop-drop k at s, sets-eq w s at (omega arith), l) (sym (append_assoc (take at s) w (drop (at + k) s)))

-- one byte more after those put
pub sets_more : (w s : List ℕ) (at n b : ℕ) → n ≡ at + length w → set (sets s at w) n b ≡ sets s at (w ++ b ∷ [])
sets_more [] s at n b e = let same : n ≡ at = omega arith in rw same refl
sets_more (a ∷ w) s at n b e = sets_more w (set s at a) (suc at) n b (omega arith)

-- up to the place after them: what stood before the place, then the bytes
pub taken_sets : (s w : List ℕ) (at n : ℕ) → n ≡ at + length w → at + length w ≤ length s → take n (sets s at w) ≡ take at s ++ w
taken_sets s w at n e h = rw (sets-eq w s at h) (take_at (take at s ++ w) (drop (at + length w) s) n (omega (arith, length-append (take at s) w, length-take-le at s (omega arith))))

-- the same for a text that is the front of a memory
pub text_pushed : (m t s w : List ℕ) (at n : ℕ) → take at m ≡ s → t ≡ sets m at w → n ≡ at + length w → at ≤ length m → length s + length w ≤ length m → take n t ≡ s ++ w
text_pushed m t s w at n v e f i h =
    let l = length-take-le at m i in
    let k : length (take at m) ≡ length s = ap length v in
    rw (e, ← v) (taken_sets m w at n f (omega arith))
