-- A sound record, condition by condition, and the range of each level. The idea: the conditions are taken apart once (`sound_record_parts`), and a total of
-- fewer than 2^32 rows has a small carry.
use Prim.Native.Nat.{ℕ, ◌+◌, ◌*◌, ◌^◌, ◌≤◌, ◌<◌}
use mathlib.Core.Path.{◌≡◌}
use mathlib.Core.Bool.{Bool, true, false, ◌&&◌, ◌||◌}
use native.Mathlib.Omega.{arith}
use lib.Dec.{T, ltb, leb, eqb, ltb→lt, leb→le, eqb→eq}
use lib.Ieee.Fits.{and_l, and_r}
use lib.IntN.{ℤ, pos, nat_abs, ◌+ℤ◌, ◌*ℤ◌}
use Rattle.level.specs.Level.{level_bound}
use Rattle.level.specs.Finest.{highest_power}
use Rattle.integers.proofs.Diff.{ints, by_parts}
use Rattle.integers.proofs.Laws.{size_zero}
use Rattle.level.specs.declared.SplitTotal.{SplitTotal}
use Rattle.level.specs.Carry.{carry_base, total_of, InRange}
use Rattle.record.specs.declared.Record.{Record}
use Rattle.record.specs.Sound.{sound_total, sound_record, is_zero}

-- a level that holds 0
abbrev pub NoTotal : SplitTotal → Type 0
NoTotal h = (h.residue ≡ 0) × (h.carry ≡ pos 0)

pub empty-total : (h : SplitTotal) → NoTotal h → total_of h ≡ pos 0
empty-total h e = rw (e.0, e.1)

pub record SoundParts (r : Record) : Type 0 where
  pub count : 1 ≤ r.count
  pub top : r.top ≤ 52
  pub finest : r.finest ≤ highest_power
  pub high : T (sound_total r.count r.high)
  pub middle : T (sound_total r.count r.middle)
  pub low : T (sound_total r.count r.low)
  pub no_middle : r.top < 1 → NoTotal r.middle
  pub no_low : r.top < 2 → NoTotal r.low

zero-empty : (h : SplitTotal) → T (is_zero h) → NoTotal h
unfolding is_zero
zero-empty h t =
    let a = eqb h.residue 0 in
    let b = eqb (nat_abs h.carry) 0 in
    (eqb→eq h.residue 0 (and_l a b t), size_zero h.carry (eqb→eq (nat_abs h.carry) 0 (and_r a b t)))

below-empty : (j t : ℕ) (h : SplitTotal) → T (leb j t || is_zero h) → t < j → NoTotal h
below-empty j t h = by (leb j t) (leb→le j t)
  where
    by : (b : Bool) → (T b → j ≤ t) → T (b || is_zero h) → t < j → NoTotal h
    by true f o l = let m = f tt in absurd (omega arith)
    by false f o l = zero-empty h o

pub sound_record_parts : (r : Record) → T (sound_record r) → SoundParts r
unfolding sound_record
sound_record_parts r h =
    let a = leb 1 r.count in
    let b = leb r.top 52 in
    let c = leb r.finest highest_power in
    let d = sound_total r.count r.high in
    let e = sound_total r.count r.middle in
    let f = sound_total r.count r.low in
    let g = leb 1 r.top || is_zero r.middle in
    let k = leb 2 r.top || is_zero r.low in
    let h7 = and_l (a && b && c && d && e && f && g) k h in
    let h6 = and_l (a && b && c && d && e && f) g h7 in
    let h5 = and_l (a && b && c && d && e) f h6 in
    let h4 = and_l (a && b && c && d) e h5 in
    let h3 = and_l (a && b && c) d h4 in
    let h2 = and_l (a && b) c h3 in
    record {
      count = leb→le 1 r.count (and_l a b h2);
      top = leb→le r.top 52 (and_r a b h2);
      finest = leb→le r.finest highest_power (and_r (a && b) c h3);
      high = and_r (a && b && c) d h4;
      middle = and_r (a && b && c && d) e h5;
      low = and_r (a && b && c && d && e) f h6;
      no_middle = below-empty 1 r.top r.middle (and_r (a && b && c && d && e && f) g h7);
      no_low = below-empty 2 r.top r.low (and_r (a && b && c && d && e && f && g) k h);
    }

-- ---- a level: its residue and its total are bounded, and with fewer than 2^32 rows so is its carry
carry_small : (s : ℕ) (z : ℤ) → nat_abs z * carry_base ≤ nat_abs (z *ℤ pos (carry_base) +ℤ pos s) + s
carry_small s = by_parts _ (λ a b. simp ints (omega arith))

module _ (n : ℕ) (h : SplitTotal) (t : T (sound_total n h)) where
  pub residue_bound : h.residue < carry_base
  unfolding sound_total
  residue_bound = ltb→lt h.residue (carry_base) (and_l (ltb h.residue (carry_base)) (leb (nat_abs (total_of h)) (n * level_bound)) t)

  pub total_of-bound : nat_abs (total_of h) ≤ n * level_bound
  unfolding sound_total
  total_of-bound = leb→le (nat_abs (total_of h)) (n * level_bound) (and_r (ltb h.residue (carry_base)) (leb (nat_abs (total_of h)) (n * level_bound)) t)

  pub carry_bound : n < 2 ^ 32 → nat_abs h.carry < 2 ^ 22
  carry_bound l = omega (arith, residue_bound, total_of-bound, carry_small h.residue h.carry)

  pub total_range : n < 2 ^ 32 → InRange h
  total_range l = (residue_bound, carry_bound l)
