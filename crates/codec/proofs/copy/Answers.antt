-- `copy`: the first i bytes are those of s.
use Prim.Native.Nat.{ℕ, zero, suc, ◌≤◌, ◌<◌}
use mathlib.Core.Path.{◌≡◌, refl, ap, ◌∙◌}
use mathlib.Core.List.{List, [], ◌∷◌, ◌++◌}
use native.Mathlib.Numerals.{add-one}
use native.Mathlib.Omega.{arith}
use lib.ListN.{length, get_or, set, take, drop, length-append, length-drop}
use lib.Seq.{length-take-le}
use Rattle.codec.proofs.copy.Goals as goal

more : (s d : List ℕ) (i : ℕ) → i < length s → i < length d → set (take i s ++ drop i d) i (get_or s i 0) ≡ take (suc i) s ++ drop (suc i) d
more [] d i h k = absurd (omega arith)
more (x ∷ s) [] i h k = absurd (omega arith)
more (x ∷ s) (y ∷ d) zero h k = refl
more (x ∷ s) (y ∷ d) (suc i) h k = ap (λ (l : List ℕ). x ∷ l) (more s d i (omega arith) (omega arith))

same : (d₀ s : List ℕ) (n : ℕ) (d : List ℕ) (i : ℕ) → ((i ≤ n) × (d ≡ take i s ++ drop i d₀)) → n ≤ length d₀ → n ≤ length s → length d ≡ length d₀
same d₀ s n d i inv h k =
    ap length inv.1 ∙ length-append (take i s) (drop i d₀) ∙ rw (length-take-le i s (omega arith), length-drop i d₀) (omega arith)

pub loop-i-init : goal.loop-i-init
loop-i-init c = (omega arith, refl)

pub bounds-d-i : goal.bounds-d-i
bounds-d-i c =
    let l = c.loop-i in
    omega (arith, same c.args.d.now c.args.s.now c.args.n l.d l.i l.invariant c.requires.0 c.requires.1)

pub loop-i-preserved : goal.loop-i-preserved
loop-i-preserved c =
    let a = c.args in
    let l = c.loop-i in (
      omega arith,
      rw (add-one, l.invariant.1) (more a.s.now a.d.now l.i (omega arith) (omega arith)),
    )

pub shape_of-d : goal.shape_of-d
shape_of-d c =
    let l = c.loop-i in
    same c.args.d.now c.args.s.now c.args.n l.d l.i l.invariant c.requires.0 c.requires.1

pub returns : goal.returns
returns c =
    let a = c.args in
    let l = c.loop-i in
    let e : l.i ≡ a.n = omega arith in
    rw e at l.invariant.1
