-- `contributions_of` gives a row's contributions from its top down: the significand goes down the levels in units of 2^d.
use mathlib.Core.Path.{◌≡◌, refl, sym, ◌∙◌}
use mathlib.Core.Bool.{Bool, true, false, not, beq}
use Prim.Native.Nat.{ℕ, ◌*◌, ◌^◌, ◌≤◌}
use native.Mathlib.Omega.{arith}
use mir.Syntax.{w64}
use mir.ValLaws.{to_z-of_z}
use lib.Pow.{pow_pos}
use lib.Ieee.Nearest.{closest}
use Rattle.level.specs.Double.{signed, negative, significand}
use Rattle.level.specs.Level.{top, contribution, below}
use Rattle.level.specs.Cut.{shift_of, rest_of, rounded_up, flipped_if}
use Rattle.level.proofs.Near.{closest_self, closest-step}
use Rattle.level.proofs.Double.{significand-lt}
use Rattle.level.proofs.Given.{rest_half}
use Rattle.level.proofs.Top.{top-le, top-place}
use Rattle.level.proofs.Descent.{scaled, row_scaled}
use Rattle.level.proofs.contributions_of.Goals as goal

-- the contributions, from what the calls ensure: x the significand, d the shift, g the sign; n, r, o the first cut; m, p, l the lower two
three : (b x d n r m l : ℕ) (g o s p q : Bool) → x ≡ significand b → d ≡ shift_of b → g ≡ negative b
    → (n ≡ closest x (2 ^ d)) × (r ≡ rest_of x (2 ^ d)) × (o ≡ rounded_up x (2 ^ d))
    → (m ≡ closest (r * 2 ^ 40) (2 ^ d)) × (p ≡ rounded_up (r * 2 ^ 40) (2 ^ d)) × (l ≡ closest (rest_of (r * 2 ^ 40) (2 ^ d) * 2 ^ 40) (2 ^ d))
    → s ≡ flipped_if g o → q ≡ flipped_if s p
    → (signed g n ≡ below (contribution b) (top b) 0) × (signed s m ≡ below (contribution b) (top b) 1) × (signed q l ≡ below (contribution b) (top b) 2)
unfolding scaled
three b x d n r m l g o s p q ex ed eg ec el es eq =
    (rw ec.0 (row_at 0), rw (el.0, es, ec.1, ec.2) (row_at 1), rw (el.2, eq, el.1, es, ec.1, ec.2) (row_at 2))
  where
    row_at : (k : ℕ) → scaled (2 ^ d) g x k ≡ below (contribution b) (top b) k
    row_at k = rw (ex, ed, eg) (sym (row_scaled b k))

-- a sign is flipped just where the two differ
flips : (g b : Bool) → not (beq g b) ≡ flipped_if g b
flips true true = refl
flips true false = refl
flips false true = refl
flips false false = refl

pub cut_at-first-requires : goal.cut_at-first-requires
cut_at-first-requires c = let b = c.args.bits in omega (arith, significand-lt b, top-place b)

pub lower_two-next-requires : goal.lower_two-next-requires
lower_two-next-requires c =
    let d = c.shift-d.result in
    omega (arith, rest_half c.significand.result (2 ^ d) (pow_pos d), top-place c.args.bits)

pub overflow_cast-result : goal.overflow_cast-result
overflow_cast-result c = omega (arith, top-le c.args.bits)

pub with_sign-requires : goal.with_sign-requires
with_sign-requires c =
    let d = c.shift-d.result in
    omega (arith, closest_self c.significand.result (2 ^ d) (pow_pos d), significand-lt c.args.bits)

pub with_sign-requires-2 : goal.with_sign-requires-2
with_sign-requires-2 c =
    let d = c.shift-d.result in
    let h : c.cut_at-first.result.rest * 2 ≤ 2 ^ d = omega (arith, rest_half c.significand.result (2 ^ d) (pow_pos d)) in
    omega (arith, closest-step c.cut_at-first.result.rest (2 ^ d) (pow_pos d) h)

pub with_sign-requires-3 : goal.with_sign-requires-3
with_sign-requires-3 c =
    let d = c.shift-d.result in
    let x = c.cut_at-first.result.rest * 2 ^ 40 in
    omega (arith, closest-step (rest_of x (2 ^ d)) (2 ^ d) (pow_pos d) (rest_half x (2 ^ d) (pow_pos d)))

pub returns : goal.returns
returns c =
    let f = c.cut_at-first in
    let l = c.lower_two-next in
    let x = c.significand in
    let g = c.is_negative-sign in
    let d = c.shift-d in
    let t = three c.args.bits x.result d.result f.result.units f.result.rest l.result.middle l.result.low
    g.result f.result.rounded_up _ l.result.rounded_up _ x.ensures d.ensures g.ensures f.ensures l.ensures (flips g.result f.result.rounded_up) (flips _ l.result.rounded_up) in
    let high = to_z-of_z w64 _ (record { sfits = c.with_sign.type_inv }) ∙ c.with_sign.ensures ∙ t.0 in
    let middle = to_z-of_z w64 _ (record { sfits = c.with_sign-2.type_inv }) ∙ c.with_sign-2.ensures ∙ t.1 in
    let low = to_z-of_z w64 _ (record { sfits = c.with_sign-3.type_inv }) ∙ c.with_sign-3.ensures ∙ t.2 in
    λ i. record { top = c.top_level-t.ensures i; high = high i; middle = middle i; low = low i }
