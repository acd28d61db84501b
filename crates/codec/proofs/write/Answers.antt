use Prim.Native.Nat.{ℕ, suc, ◌+◌, ◌-◌, ◌/◌, ◌%◌, ◌≤◌, ◌<◌}
use mathlib.Core.Path.{◌≡◌, refl, sym, ◌∙◌}
use mathlib.Core.List.{List}
use native.Mathlib.Nat.{sub-zero, add-zero}
use native.Mathlib.Omega.{arith}
use lib.ListN.{set}
use lib.Seq.{sets}
use Rattle.codec.specs.Bytes.{bytes}
use Rattle.codec.proofs.write.Goals as goal

-- one byte stored, the others of the number are left
one_more : (s : List ℕ) (at w y k : ℕ) → k < w → sets s (at + k) (bytes (w - k) y) ≡ sets (set s (at + k) (y % 256)) (at + (k + 1)) (bytes (w - (k + 1)) (y / 256))
unfolding bytes
one_more s at w y k h =
    let n : w - k ≡ suc (w - (k + 1)) = omega arith in
    let e : at + (k + 1) ≡ suc (at + k) = omega arith in
    rw (e, n) refl

none_left : (s : List ℕ) (at w y k : ℕ) → w ≤ k → sets s (at + k) (bytes (w - k) y) ≡ s
unfolding bytes
none_left s at w y k h =
    let n : w - k ≡ 0 = omega arith in
    rw n refl

pub loop-k-init : goal.loop-k-init
loop-k-init c = rw (sub-zero, add-zero)

pub loop-k-preserved : goal.loop-k-preserved
loop-k-preserved c =
    let l = c.loop-k in
    sym (one_more l.s c.args.at c.args.w l.y l.k c.loop-k-test.true) ∙ l.invariant

pub returns : goal.returns
returns c =
    let l = c.loop-k in
    sym (none_left l.s c.args.at c.args.w l.y l.k c.loop-k-test.false) ∙ l.invariant
