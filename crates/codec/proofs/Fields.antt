-- What the library says of a number's bytes and of bytes that were moved, in the words of `number_at` and `sets`.
use Prim.Native.Nat.{ℕ, suc, ◌+◌, ◌*◌, ◌≤◌}
use mathlib.Core.Path.{◌≡◌, sym, ap, ◌∙◌}
use mathlib.Core.List.{List, ◌++◌}
use native.Mathlib.Omega.{arith}
use lib.ListN.{length, get_or, take, drop}
use lib.Seq.{sets, sets-eq, length-take-le, paste}
use Rattle.codec.specs.Bytes.{number_at}
use Rattle.codec.proofs.Laws.{number_at_cons, number_at-none, number_at-add}

-- bytes that were moved within a buffer
pub paste-sets : (s w : List ℕ) (a n : ℕ) → a + n ≤ length s → n ≤ length w → paste s a w n ≡ sets s a (take n w)
paste-sets s w a n h k =
    let l = length-take-le n w k in
    ap (λ (i : ℕ). take a s ++ take n w ++ drop (a + i) s) (sym l)
    ∙ sym (sets-eq (take n w) s a (omega arith))

-- a field of four bytes, byte by byte
pub four : (s : List ℕ) (at : ℕ) → at + 4 ≤ length s
    → get_or s at 0 + get_or s (at + 1) 0 * 256 + get_or s (at + 2) 0 * 65536 + get_or s (at + 3) 0 * 16777216 ≡ number_at 4 s at
four s at h =
    let e : at + 1 ≡ suc at = omega arith in
    let f : at + 2 ≡ suc (suc at) = omega arith in
    let g : at + 3 ≡ suc (suc (suc at)) = omega arith in
    rw (e, f, g)
    (omega (
      arith,
      number_at_cons 3 at s (omega arith),
      number_at_cons 2 (suc at) s (omega arith),
      number_at_cons 1 (suc (suc at)) s (omega arith),
      number_at_cons 0 (suc (suc (suc at))) s (omega arith),
      number_at-none (suc (suc (suc (suc at)))) s,
    ))

-- a field of eight bytes
pub eight : (s : List ℕ) (at : ℕ) → at + 8 ≤ length s
    → get_or s at 0 + get_or s (at + 1) 0 * 256 + get_or s (at + 2) 0 * 65536 + get_or s (at + 3) 0 * 16777216
    + get_or s (at + 4) 0 * 4294967296 + get_or s (at + 5) 0 * 1099511627776 + get_or s (at + 6) 0 * 281474976710656 + get_or s (at + 7) 0 * 72057594037927936
    ≡ number_at 8 s at
eight s at h =
    let f : at + 4 + 1 ≡ at + 5 = omega arith in
    let g : at + 4 + 2 ≡ at + 6 = omega arith in
    let k : at + 4 + 3 ≡ at + 7 = omega arith in
    let high = rw (f, g, k) at (four s (at + 4) (omega arith)) in
    omega (arith, number_at-add 4 4 at s h, four s at (omega arith), high)
