-- The size and the sign of the kept value, from the biased totals. The idea: a total is its biased total less 2^72, so the three totals put together are
-- the biased ones put together less the biases put together, and that distance with its sign is the kept value, 80 digits up.
use mathlib.Core.Path.{◌≡◌, refl, sym, ap, ap₂, ◌∙◌}
use mathlib.Core.Bool.{Bool, true, false, not}
use Prim.Native.Nat.{ℕ, zero, suc, ◌+◌, ◌-◌, ◌*◌, ◌/◌, ◌^◌, ◌<◌}
use native.Mathlib.Nat.{mul-pos, mul-div_cancel, lt_irrefl, zero-mul}
use native.Mathlib.Omega.{arith}
use lib.Dec.{T}
use lib.Pow.{pow_pos}
use lib.IntN.{ℤ, pos, negsuc, ◌+ℤ◌, ◌*ℤ◌, nat_abs}
use lib.Signed.{non_neg}
use Rattle.lists.proofs.Booleans.{never}
use Rattle.integers.proofs.Diff.{◌⊝◌, ints, by_parts, by_parts₃}
use Rattle.integers.proofs.Laws.{nat_abs-scale}
use Rattle.level.proofs.Signs.{nat_abs-signed, signed_mul}
use Rattle.level.proofs.Given.{unit-suc}
use Rattle.level.specs.Double.{signed}
use Rattle.level.specs.Level.{unit}
use Rattle.level.specs.Carry.{carry_base, total_of, InRange}
use Rattle.level.specs.declared.SplitTotal.{SplitTotal}
use Rattle.record.specs.declared.Record.{Record}
use Rattle.record.specs.Sound.{sound_record}
use Rattle.record.specs.Section.{kept, meaning}
use Rattle.record.proofs.Parts.{empty-total, sound_record_parts, total_range}
use Rattle.limbs.specs.Limbs.{SignedDifference}
use Rattle.finish.specs.Biased.{carry_bias, total_bias, biased_carry, biased_total}

-- ---- the kept value, 80 digits up

-- the three totals, each 40 digits above the next
abbrev stacked : ℤ → ℤ → ℤ → ℤ
stacked x y z = z +ℤ pos (2 ^ 40) *ℤ y +ℤ pos (2 ^ 80) *ℤ x

-- three numbers at the weights u, v and w, where each weight is 2^40 times the next one, but for numbers that are 0
weighed : (u v w : ℕ) (x y z : ℤ) → y *ℤ pos u ≡ y *ℤ pos (2 ^ 40 * v) → z *ℤ pos u ≡ z *ℤ pos (2 ^ 40 * v) → z *ℤ pos v ≡ z *ℤ pos (2 ^ 40 * w)
    → (x *ℤ pos u +ℤ y *ℤ pos v +ℤ z *ℤ pos w) *ℤ pos (2 ^ 80) ≡ stacked x y z *ℤ pos u
weighed u v w = by_parts₃ _ (λ a b c d e f. simp ints (λ h k l. omega arith))

-- one level down is 40 digits down, for a number that is 0 where there is no such level
level_down : (t : ℕ) (y : ℤ) → (t < 1 → y ≡ pos 0) → y *ℤ pos (unit t) ≡ y *ℤ pos (2 ^ 40 * unit (t - 1))
level_down zero y h = rw (h (omega arith)) (ap pos (omega arith))
level_down (suc j) y h = let e : suc j - 1 ≡ j = omega arith in rw (e, unit-suc j)

kept_up : (t : ℕ) (x y z : ℤ) → (t < 1 → y ≡ pos 0) → (t < 2 → z ≡ pos 0)
    → (x *ℤ pos (unit t) +ℤ y *ℤ pos (unit (t - 1)) +ℤ z *ℤ pos (unit (t - 2))) *ℤ pos (2 ^ 80) ≡ stacked x y z *ℤ pos (unit t)
kept_up t x y z h k =
    let lower : t - 1 - 1 ≡ t - 2 = omega arith in
    weighed (unit t) (unit (t - 1)) (unit (t - 2)) x y z
    (level_down t y h) (level_down t z (λ l. k (omega arith))) (rw lower at (level_down (t - 1) z (λ l. k (omega arith))))

-- ---- a total is its biased total less 2^72

carry_is : (c : ℤ) → nat_abs c < carry_bias → c ≡ biased_carry c ⊝ carry_bias
carry_is = by_parts _ (λ a b. simp ints (omega arith))

total_of_lem : (n s : ℕ) → (n ⊝ carry_bias) *ℤ pos (carry_base) +ℤ pos s ≡ (s + carry_base * n) ⊝ total_bias
total_of_lem n s = simp ints (omega arith)

total_is : (h : SplitTotal) → InRange h → total_of h ≡ biased_total h ⊝ total_bias
total_is h r = ap (λ (c : ℤ). c *ℤ pos (carry_base) +ℤ pos h.residue) (carry_is h.carry r.1) ∙ total_of_lem (biased_carry h.carry) h.residue

stacked_is : (a b x y z : ℕ) → (z ⊝ b) +ℤ pos a *ℤ (y ⊝ b) +ℤ pos (a * a) *ℤ (x ⊝ b) ≡ (z + a * y + a * a * x) ⊝ (b + a * b + a * a * b)
stacked_is a b x y z = simp ints (omega arith)

-- ---- the distance with its sign

difference_is : (s : Bool) (v p q : ℕ) → SignedDifference s v p q → p ⊝ q ≡ signed s v
difference_is false v p q e = simp ints (omega arith)
difference_is true v p q e = simp ints (omega arith)

-- so the sign of a scaled number is its own
sign_is : (k : ℤ) (s : Bool) (c m : ℕ) → 0 < c → (s ≡ true → 0 < m) → k *ℤ pos c ≡ signed s m → not (non_neg k) ≡ s
sign_is (pos n) true c m l h e = let g = simp ints at e in let p = h refl in absurd (lt_irrefl 0 (omega arith))
sign_is (pos n) false c m l h e = refl
sign_is (negsuc n) true c m l h e = refl
sign_is (negsuc n) false c m l h e = let g = simp ints at e in let p = mul-pos {m = suc n} {n = c} (omega arith) l in absurd (lt_irrefl 0 (omega arith))

difference_some : (s : Bool) (v p q : ℕ) → SignedDifference s v p q → s ≡ true → 0 < v
difference_some true v p q e h = e.1
difference_some false v p q e h = never cc

-- the size and the sign of a sound record's kept value: P holds the biased totals, Q their biases, and v is their distance
pub kept_size : (r : Record) (v P Q : ℕ) (s : Bool) → r.count < 2 ^ 32 → T (sound_record r)
    → P ≡ biased_total r.low + 2 ^ 40 * biased_total r.middle + 2 ^ 80 * biased_total r.high → Q ≡ total_bias + 2 ^ 40 * total_bias + 2 ^ 80 * total_bias → SignedDifference s v P Q
    → (nat_abs (kept (meaning r)) * 2 ^ 80 ≡ v * 2 ^ (40 * r.top)) × (not (non_neg (kept (meaning r))) ≡ s)
unfolding kept
kept_size r v P Q s l h p q d =
    let g = sound_record_parts r h in
    let x = r.high in
    let y = r.middle in
    let z = r.low in
    let whole : stacked (total_of x) (total_of y) (total_of z) ≡ signed s v =
    rw (total_is x (total_range r.count x g.high l), total_is y (total_range r.count y g.middle l), total_is z (total_range r.count z g.low l))
    (stacked_is (2 ^ 40) total_bias (biased_total x) (biased_total y) (biased_total z) ∙ ap₂ ◌⊝◌ (sym p) (sym q) ∙ difference_is s v P Q d) in
    let up : kept (meaning r) *ℤ pos (2 ^ 80) ≡ signed s (v * unit r.top) =
    kept_up r.top (total_of x) (total_of y) (total_of z) (λ o. empty-total y (g.no_middle o)) (λ o. empty-total z (g.no_low o))
    ∙ ap (λ (m : ℤ). m *ℤ pos (unit r.top)) whole ∙ signed_mul s v (unit r.top) in (
      sym (nat_abs-scale (kept (meaning r)) (2 ^ 80)) ∙ ap nat_abs up ∙ nat_abs-signed s (v * unit r.top),
      sign_is (kept (meaning r)) s (2 ^ 80) (v * unit r.top) (pow_pos 80) (λ e. mul-pos (difference_some s v P Q d e) (pow_pos (40 * r.top))) up,
    )

-- ---- the limbs in units

pub units_exact : (k v u : ℕ) → k * 2 ^ 80 ≡ v * u → v * u / 2 ^ 80 ≡ k
units_exact k v u e = ap (λ (x : ℕ). x / 2 ^ 80) (sym e) ∙ mul-div_cancel k (pow_pos 80)

-- ---- a distance of 0

-- the kept value is 0 then, and not a negative one
pub no_sign : (v : ℕ) (s : Bool) (p q : ℕ) → v ≡ 0 → SignedDifference s v p q → s ≡ false
no_sign v false p q e h = refl
no_sign v true p q e h = absurd (lt_irrefl 0 (omega arith))

pub no_size : (k v u : ℕ) → k * 2 ^ 80 ≡ v * u → v ≡ 0 → k ≡ 0
no_size k v u e h = let z = ap (λ (x : ℕ). x * u) h ∙ zero-mul u in omega arith
