-- What a sound record holds at a level. The idea: its three levels are looked through as its section's are, and at one top those of two records stand side by side.
use Prim.Native.Nat.{ℕ, ◌+◌, ◌-◌, ◌^◌, ◌≤◌, ◌<◌, max}
use mathlib.Core.Path.{◌≡◌, refl, ap, ap₂, ◌∙◌}
use mathlib.Core.Bool.{Bool, true, false, cond}
use lib.Dec.{T, eqb, lit<}
use native.Mathlib.Decide.{dec_le}
use native.Mathlib.Omega.{arith}
use borrow.Author.Tests.{eq-eqb, ne_eqb, le-leb, lt-leb}
use lib.IntN.{ℤ, pos, ◌+ℤ◌}
use Rattle.level.specs.declared.SplitTotal.{SplitTotal}
use Rattle.level.specs.Level.{below}
use Rattle.level.specs.Carry.{split_of, total_of, InRange}
use Rattle.record.specs.declared.Record.{Record}
use Rattle.record.specs.Sound.{sound_record}
use Rattle.record.specs.Section.{Section, meaning}
use Rattle.record.proofs.Parts.{NoTotal, empty-total, SoundParts, sound_record_parts, total_range}
use Rattle.table.specs.Combine.{level_of, both_at}
use Rattle.table.specs.Steps.{split_in}

-- ---- what a record holds at level j
pub split_level : (r : Record) (j : ℕ) → total_of (split_in r j) ≡ level_of (meaning r) j
unfolding level_of
split_level r j = by (eqb j r.top) (eqb (j + 1) r.top) (eqb (j + 2) r.top)
  where
    by : (a b c : Bool) → total_of (cond a r.high (cond b r.middle (cond c r.low (split_of (pos 0)))))
        ≡ cond a (total_of r.high) (cond b (total_of r.middle) (cond c (total_of r.low) (pos 0)))
    by true b c = refl
    by false true c = refl
    by false false true = refl
    by false false false = refl

pub split_in_in_range : (r : Record) (j : ℕ) → r.count < 2 ^ 32 → T (sound_record r) → InRange (split_in r j)
split_in_in_range r j h t =
    let p = sound_record_parts r t in
    by (eqb j r.top) (eqb (j + 1) r.top) (eqb (j + 2) r.top)
    (total_range r.count r.high p.high h) (total_range r.count r.middle p.middle h) (total_range r.count r.low p.low h)
  where
    by : (a b c : Bool) → InRange r.high → InRange r.middle → InRange r.low → InRange (cond a r.high (cond b r.middle (cond c r.low (split_of (pos 0)))))
    by true b c x y z = x
    by false true c x y z = y
    by false false true x y z = z
    by false false false x y z = (lit< tt, lit< tt)

-- ---- two sections of one top: each level of the one stands beside that of the other
module _ (s : Section) where
  pub level_high : level_of s (s.top - 0) ≡ s.high
  unfolding level_of
  level_high = rw (eq-eqb (s.top - 0) s.top (omega arith))

  pub level_middle : 1 ≤ s.top → level_of s (s.top - 1) ≡ s.middle
  unfolding level_of
  level_middle h = rw (ne_eqb (s.top - 1) s.top (λ e. omega arith), eq-eqb (s.top - 1 + 1) s.top (omega arith))

  pub level_low : 2 ≤ s.top → level_of s (s.top - 2) ≡ s.low
  unfolding level_of
  level_low h =
      rw (ne_eqb (s.top - 2) s.top (λ e. omega arith), ne_eqb (s.top - 2 + 1) s.top (λ e. omega arith), eq-eqb (s.top - 2 + 2) s.top (omega arith))

module _ (a b : Record) (e : a.top ≡ b.top) (p : SoundParts a) (q : SoundParts b) where
  abbrev both_hold : ℕ → ℤ
  both_hold = both_at (meaning a) (meaning b)

  -- at depth d under the top, where the records hold x and y, or nothing where there is no such level
  same-top : (d : ℕ) (x y : SplitTotal) → (d ≤ a.top → level_of (meaning a) (a.top - d) ≡ total_of x) → (d ≤ b.top → level_of (meaning b) (b.top - d) ≡ total_of y)
      → (a.top < d → NoTotal x) → (b.top < d → NoTotal y) → below both_hold (max a.top b.top) d ≡ total_of x +ℤ total_of y
  same-top d x y f g none none' =
      let t : max a.top b.top ≡ a.top = omega arith in
      elim (dec_le d a.top) [
        | yes l ↦ rw (t, le-leb d a.top l) (ap₂ ◌+ℤ◌ (f l) (ap (λ (n : ℕ). level_of (meaning b) (n - d)) e ∙ g (omega arith)))
        | no l ↦ rw (t, lt-leb d a.top (omega arith), empty-total x (none (omega arith)), empty-total y (none' (omega arith)))
      ]

  pub same-top-high : below both_hold (max a.top b.top) 0 ≡ total_of a.high +ℤ total_of b.high
  same-top-high = same-top 0 a.high b.high (λ l. level_high (meaning a)) (λ l. level_high (meaning b)) (λ l. absurd (omega arith)) (λ l. absurd (omega arith))

  pub same-top-middle : below both_hold (max a.top b.top) 1 ≡ total_of a.middle +ℤ total_of b.middle
  same-top-middle = same-top 1 a.middle b.middle (level_middle (meaning a)) (level_middle (meaning b)) p.no_middle q.no_middle

  pub same-top-low : below both_hold (max a.top b.top) 2 ≡ total_of a.low +ℤ total_of b.low
  same-top-low = same-top 2 a.low b.low (level_low (meaning a)) (level_low (meaning b)) p.no_low q.no_low
