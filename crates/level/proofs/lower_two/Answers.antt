-- `lower_two` goes on with a rest: where 2^40 holds a whole number of units 2^d nothing is left after one level, and else after two.
use mathlib.Core.Path.{◌≡◌, sym, ap, ◌∙◌}
use mathlib.Core.Bool.{Bool, false}
use Prim.Native.Nat.{ℕ, ◌-◌, ◌*◌, ◌%◌, ◌^◌, ◌≤◌, ◌<◌}
use native.Mathlib.Nat.{mul_assoc, mul-le-mul_right, mod-eq_of_lt, le_of_eq}
use native.Mathlib.Omega.{arith}
use borrow.Author.Tests.{le-ltb}
use lib.Pow.{pow_pos, pow_mono}
use lib.Ieee.Nearest.{closest}
use Rattle.level.specs.Cut.{rest_of, rounded_up}
use Rattle.level.proofs.Near.{closest_small, closest_whole}
use Rattle.integers.proofs.Naturals.{pow-sum}
use Rattle.level.proofs.Given.{rest_half}
use Rattle.level.proofs.Descent.{rest_whole, units_scale, direction_scale, rest_scale}
use Rattle.level.proofs.lower_two.Goals as goal

-- x of at most half of 2^e, shifted left by f, where 2^(e + f) is 2^40
no-digit-lost : (x e f : ℕ) → x * 2 ≤ 2 ^ e → 2 ^ e * 2 ^ f ≡ 2 ^ 40 → x * 2 ^ f % 2 ^ 64 ≡ x * 2 ^ f
no-digit-lost x e f h s = mod-eq_of_lt (omega (arith, mul-le-mul_right (2 ^ f) h))

module _ (r d : ℕ) (h : (r * 2 ≤ 2 ^ d) × (d < 54)) where
  short : d ≤ 40
      → (r * 2 ^ (40 - d) % 2 ^ 64 ≡ closest (r * 2 ^ 40) (2 ^ d)) × (false ≡ rounded_up (r * 2 ^ 40) (2 ^ d)) × (0 ≡ closest (rest_of (r * 2 ^ 40) (2 ^ d) * 2 ^ 40) (2 ^ d))
  short l =
      let k = r * 2 ^ (40 - d) in
      let x : r * 2 ^ 40 ≡ k * 2 ^ d = sym (mul_assoc r (2 ^ (40 - d)) (2 ^ d) ∙ ap (λ (w : ℕ). r * w) (pow-sum (40 - d) d 40 (omega arith))) in
      let u : closest (r * 2 ^ 40) (2 ^ d) ≡ k = ap (λ (y : ℕ). closest y (2 ^ d)) x ∙ closest_whole k (2 ^ d) (pow_pos d) in
      let z : rest_of (r * 2 ^ 40) (2 ^ d) ≡ 0 = ap (λ (y : ℕ). rest_of y (2 ^ d)) x ∙ rest_whole k (2 ^ d) (pow_pos d) in (
        no-digit-lost r d (40 - d) h.0 (pow-sum d (40 - d) 40 (omega arith)) ∙ sym u,
        sym (le-ltb (r * 2 ^ 40) (closest (r * 2 ^ 40) (2 ^ d) * 2 ^ d) (le_of_eq (ap (λ (n : ℕ). n * 2 ^ d) u ∙ sym x))),
        sym (closest_small (rest_of (r * 2 ^ 40) (2 ^ d) * 2 ^ 40) (2 ^ d) (pow_pos d) (omega arith)),
      )

  long : 40 < d → (n m : ℕ) (o : Bool) → (n ≡ closest r (2 ^ (d - 40))) × (m ≡ rest_of r (2 ^ (d - 40))) × (o ≡ rounded_up r (2 ^ (d - 40)))
      → (n ≡ closest (r * 2 ^ 40) (2 ^ d)) × (o ≡ rounded_up (r * 2 ^ 40) (2 ^ d)) × (m * 2 ^ (80 - d) % 2 ^ 64 ≡ closest (rest_of (r * 2 ^ 40) (2 ^ d) * 2 ^ 40) (2 ^ d))
  long l n m o e =
      let v = 2 ^ (d - 40) in
      let q = pow_pos (d - 40) in
      let s : v * 2 ^ 40 ≡ 2 ^ d = pow-sum (d - 40) 40 d (omega arith) in
      let t : rest_of (r * 2 ^ 40) (2 ^ d) ≡ m * 2 ^ 40 = rw (← s, e.1) (rest_scale r v (2 ^ 40) q (pow_pos 40)) in
      let k : m * 2 ^ (80 - d) * 2 ^ d ≡ m * 2 ^ 80 = mul_assoc m (2 ^ (80 - d)) (2 ^ d) ∙ ap (λ (w : ℕ). m * w) (pow-sum (80 - d) d 80 (omega arith)) in (
        rw (e.0, ← s) (sym (units_scale r v (2 ^ 40) q (pow_pos 40))),
        rw (e.2, ← s) (sym (direction_scale r v (2 ^ 40) q (pow_pos 40))),
        no-digit-lost m (d - 40) (80 - d) (rw e.1 (rest_half r v q)) (pow-sum (d - 40) (80 - d) 40 (omega arith))
            ∙ sym (closest_whole (m * 2 ^ (80 - d)) (2 ^ d) (pow_pos d)) ∙ ap (λ (y : ℕ). closest y (2 ^ d)) (omega arith),
      )

pub returns-then-d-le40 : goal.returns-then-d-le40
returns-then-d-le40 c = short c.args.rest c.args.d c.requires c.if-d-le40.true

pub cut_at-c-requires : goal.cut_at-c-requires
cut_at-c-requires c = let h : 2 ^ c.args.d ≤ 2 ^ 53 = pow_mono {j = 53} (omega arith) in omega arith

pub returns : goal.returns
returns c =
    let a = c.args in
    let r = c.cut_at-c.result in
    long a.rest a.d c.requires c.if-d-le40.false r.units r.rest r.rounded_up c.cut_at-c.ensures
