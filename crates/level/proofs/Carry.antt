-- A total is its carry and its residue, in one way only.
use mathlib.Core.Path.{◌≡◌, sym, ap, ap₂, ◌∙◌}
use Prim.Native.Nat.{ℕ, suc, ◌+◌, ◌-◌, ◌*◌, ◌/◌, ◌%◌, ◌^◌, ◌≤◌, ◌<◌}
use native.Mathlib.Omega.{arith}
use lib.IntN.{ℤ, pos, negsuc, neg_ℤ, ◌+ℤ◌, ◌-ℤ◌, ◌*ℤ◌, +ℤ_assoc}
use Rattle.level.specs.Carry.{carry_base, carry_of, residue_of, split_of, total_of}
use Rattle.level.specs.declared.SplitTotal.{SplitTotal}
use Rattle.integers.proofs.Laws.{+ℤ-*ℤ, neg-add}
use Rattle.integers.proofs.Diff.{ints, by_parts, +ℤ-interchange}

pub residue_lt : (z : ℤ) → residue_of z < carry_base
residue_lt (pos n) = omega arith
residue_lt (negsuc n) = omega arith

pub total-split : (z : ℤ) → carry_of z *ℤ pos (carry_base) +ℤ pos (residue_of z) ≡ z
total-split (pos n) = ap pos (omega arith)
total-split (negsuc n) = neg-add (suc (n / carry_base) * carry_base) (carry_base - 1 - n % carry_base) (omega arith) ∙ ap negsuc (omega arith)

pub carry_of_lem : (c : ℤ) (s : ℕ) → s < carry_base → carry_of (c *ℤ pos (carry_base) +ℤ pos s) ≡ c
carry_of_lem (pos a) s h = ap pos (omega arith)
carry_of_lem (negsuc a) s h = rw (neg-add (suc a * carry_base) s (omega arith)) (ap negsuc (omega arith))

pub residue_of_lem : (c : ℤ) (s : ℕ) → s < carry_base → residue_of (c *ℤ pos (carry_base) +ℤ pos s) ≡ s
residue_of_lem (pos a) s h = omega arith
residue_of_lem (negsuc a) s h = rw (neg-add (suc a * carry_base) s (omega arith)) (omega arith)

-- no other residue in range and carry make the total
pub split_unique : (z c : ℤ) (s : ℕ) → s < carry_base → z ≡ c *ℤ pos (carry_base) +ℤ pos s → (c ≡ carry_of z) × (s ≡ residue_of z)
split_unique z c s h e = (sym (ap carry_of e ∙ carry_of_lem c s h), sym (ap residue_of e ∙ residue_of_lem c s h))

-- a kept total comes back, and two kept totals are added by their residues and carries
pub split-total : (h : SplitTotal) → h.residue < carry_base → split_of (total_of h) ≡ h
split-total h l = λ i. record { residue = residue_of_lem h.carry h.residue l i; carry = carry_of_lem h.carry h.residue l i }

pub split-sum : (a b : SplitTotal) → split_of (total_of a +ℤ total_of b) ≡ record { residue = (a.residue + b.residue) % carry_base; carry = a.carry +ℤ b.carry +ℤ pos ((a.residue + b.residue) / carry_base) }
split-sum a b =
    let s = a.residue + b.residue in
    let u = pos (carry_base) in
    let c = a.carry +ℤ b.carry in
    let k : pos s ≡ pos (s / carry_base) *ℤ u +ℤ pos (s % carry_base) = ap pos (omega arith) in
    let e : total_of a +ℤ total_of b ≡ (c +ℤ pos (s / carry_base)) *ℤ u +ℤ pos (s % carry_base) =
    +ℤ-interchange (a.carry *ℤ u) (pos a.residue) (b.carry *ℤ u) (pos b.residue)
    ∙ ap₂ ◌+ℤ◌ (sym (+ℤ-*ℤ a.carry b.carry u)) k
    ∙ sym (+ℤ_assoc (c *ℤ u) (pos (s / carry_base) *ℤ u) (pos (s % carry_base)))
    ∙ ap (λ (z : ℤ). z +ℤ pos (s % carry_base)) (sym (+ℤ-*ℤ c (pos (s / carry_base)) u)) in
    ap split_of e ∙ split-total (record { residue = s % carry_base; carry = c +ℤ pos (s / carry_base) }) (omega arith)

-- the low 50 bits of a negative number's two's complement
pub low_fifty : (n : ℕ) → n < 2 ^ 63 → (2 ^ 64 - suc n) % carry_base ≡ carry_base - 1 - n % carry_base
low_fifty n h = omega arith

-- the complement of a carry, and what a residue lacks of 2^50, make the opposite total
pub total_opposite : (r : ℕ) → r ≤ carry_base → (c : ℤ) → (neg_ℤ c -ℤ pos 1) *ℤ pos (carry_base) +ℤ pos (carry_base - r) ≡ neg_ℤ (c *ℤ pos (carry_base) +ℤ pos r)
total_opposite r h = by_parts _ (λ a b. simp ints (omega arith))
