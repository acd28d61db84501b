-- What the tests of soundness compute: sizes of totals, and keys and records from the front.
use Prim.Native.Nat.{ℕ, suc, ◌+◌, ◌-◌, ◌*◌, ◌^◌, ◌<◌, ◌≤◌}
use mathlib.Core.Path.{◌≡◌, refl, sym, ap, ◌∙◌}
use mathlib.Core.Bool.{true, false, ◌&&◌}
use mathlib.Core.List.{List, [], ◌∷◌}
use native.Mathlib.Omega.{arith}
use borrow.Author.Tests.{lt-ltb, le-ltb, ne_eqb}
use lib.Dec.{ltb, eqb}
use lib.IntN.{ℤ, pos, negsuc, nat_abs, ◌+ℤ◌, ◌*ℤ◌}
use lib.Signed.{lt_z}
use lib.ListN.{length, get_or, drop, length-drop}
use lib.Seq.{drop-cons}
use mir.Syntax.{w64}
use mir.Val.{to_z, of_z, SFits}
use Rattle.integers.proofs.Laws.{neg-add}
use Rattle.level.specs.Carry.{carry_base}
use Rattle.integers.proofs.Width.{below-zero, from_zero}
use Rattle.record.specs.declared.Record.{Record}
use Rattle.record.specs.Keys.{rising}
use Rattle.record.specs.Sound.{sound_record, sound_records}

pub size_negative : (z : ℤ) (s : ℕ) → SFits w64 z → s < carry_base → lt_z (to_z w64 (of_z w64 z)) (pos 0) ≡ true
    → nat_abs (z *ℤ pos (carry_base) +ℤ pos s) ≡ nat_abs (to_z w64 (2 ^ 64 - 1 - of_z w64 z)) * carry_base + (carry_base - s)
size_negative (pos n) s f h e = let b = below-zero w64 (pos n) f e in absurd (omega (arith, b.most, b.bits_are))
size_negative (negsuc k) s f h e =
    omega (arith, ap nat_abs (neg-add (suc k * carry_base) s (omega arith)), ap nat_abs (below-zero w64 (negsuc k) f e).complement)

pub size_positive : (z : ℤ) (s : ℕ) → SFits w64 z → lt_z (to_z w64 (of_z w64 z)) (pos 0) ≡ false
    → nat_abs (z *ℤ pos (carry_base) +ℤ pos s) ≡ nat_abs (to_z w64 (of_z w64 z)) * carry_base + s
size_positive (pos n) s f e = omega (arith, ap nat_abs (from_zero w64 (pos n) f e).same)
size_positive (negsuc k) s f e = let b = from_zero w64 (negsuc k) f e in absurd (omega (arith, b.most, b.bits_are))

pub zero_by_bits : (z : ℤ) → SFits w64 z → eqb (of_z w64 z) 0 ≡ eqb (nat_abs z) 0
zero_by_bits (pos n) f = refl
zero_by_bits (negsuc n) f = ne_eqb (2 ^ 64 - suc n) 0 (λ e. omega arith) ∙ sym (ne_eqb (suc n) 0 (λ e. omega arith))

-- ---- going through the keys, and through the records, from the front

rising_short : (l : List ℕ) → length l ≤ 1 → rising l ≡ true
unfolding rising
rising_short [] h = refl
rising_short (x ∷ []) h = refl
rising_short (x ∷ y ∷ ys) h = absurd (omega arith)

module _ (ks : List ℕ) (j : ℕ) where
  two : suc j < length ks → rising (drop j ks) ≡ (ltb (get_or ks j 0) (get_or ks (suc j) 0) && rising (drop (suc j) ks))
  unfolding rising
  two h = rw (drop-cons ks j 0 (omega arith), drop-cons ks (suc j) 0 h)

  pub rising_more : suc j < length ks → get_or ks j 0 < get_or ks (suc j) 0 → rising (drop j ks) ≡ rising (drop (suc j) ks)
  rising_more h l = two h ∙ rw (lt-ltb (get_or ks j 0) (get_or ks (suc j) 0) l)

  pub rising_stop : suc j < length ks → get_or ks (suc j) 0 ≤ get_or ks j 0 → rising (drop j ks) ≡ false
  rising_stop h l = two h ∙ rw (le-ltb (get_or ks j 0) (get_or ks (suc j) 0) l)

  pub rising_last : length ks ≤ suc j → rising (drop j ks) ≡ true
  rising_last h = rising_short (drop j ks) (rw length-drop (omega arith))

pub sound_cons : (rs : List Record) (i : ℕ) (d : Record) → i < length rs → sound_records (drop i rs) ≡ (sound_record (get_or rs i d) && sound_records (drop (suc i) rs))
unfolding sound_records
sound_cons rs i d h = rw (drop-cons rs i d h)
