-- The figure and the line, from the sum; and what an outcome of finishing says of the table. The idea: sum, figure and line differ only in their conditions and
-- values, so that each case split (by the kept value's size, by the table and the section, by a lookup) serves all three.
use mathlib.Core.Path.{◌≡◌, refl, sym, ap, ◌∙◌}
use mathlib.Core.Bool.{Bool, true, false, not, cond}
use mathlib.Core.List.{List, [], ◌∷◌}
use mathlib.Core.Logic.{inl, inr}
use Rattle.std.specs.Prelude.{Result, Ok, Err}
use mathlib.Core.Option.{Option, none, some}
use Prim.Native.Nat.{ℕ}
use lib.Dec.{T, eqb}
use lib.IntN.{ℤ}
use lib.Ieee.{binary64, of_bits, to_bits}
use lib.Ieee.Bits.{of_bits-to_bits, is_true}
use lib.Ieee.Scale.{finite}
use Rattle.refusal.specs.Outcome.{Outcome, accepted, refused, Ground, ground, outcome, condition, IsLowest, rising_from, is_refusal, is_ground}
use Rattle.refusal.proofs.Outcomes.{accepted≢refused, accepted_not, accepted-value, lowest, refused_alike, not_given}
use Rattle.record.specs.Sound.{sound}
use Rattle.record.specs.Section.{Section, kept, meaning, sections, find}
use Rattle.finish.specs.Sum.{nearest_double, too_large}
use Rattle.finish.specs.Figure.{beyond}
use Rattle.finish.specs.Side.{side}
use Rattle.finish.specs.Finish.{RoundedSum, double_for, sum_for, figure_for, line_for, sum_grounds, figure_grounds, finished_by, found_grounds, finishing_grounds, sum_of, figure_of, line_of, finishing, sum_outcome, figure_outcome, line_outcome}
use Rattle.finish.specs.Answer.{sum_answer}
use Rattle.finish.specs.Steps.{LookedUp, kept_sum, FiniteSum, figure_by}
use Rattle.soundness.specs.declared.sound.SoundRecord.{SoundRecord}
use Rattle.refusal.specs.declared.Refusal.{Refusal}
use Rattle.refusal.specs.declared.Refusal.TheVariants.{SectionAbsent}
use Rattle.refusal.specs.Number.{number_of}
use Rattle.finish.specs.declared.FinishedLine.{FinishedLine}
use Rattle.finish.specs.declared.SectionSum.{SectionSum}
use Rattle.finish.specs.declared.SectionSum.TheVariants.{Finite, TooLarge}
use Rattle.finish.proofs.Sums.{double_fits, double_finite}

-- ---- by whether the kept value is too large; where it is not, its sum is finite

by_size : (k : ℤ) (P : Bool → Type 0) → P true → (T (finite (nearest_double k)) → P false) → P (too_large k)
by_size k P large small = go (too_large k) (double_finite k)
  where
    go : (b : Bool) → (b ≡ false → T (finite (nearest_double k))) → P b
    go true h = large
    go false h = small (h refl)

-- the sum of a section that is there, with b for whether it is too large
abbrev sum_by : Section → Bool → Outcome RoundedSum
sum_by s b = cond b (refused 14) (accepted (sum_for s))

pub sum_for_lem : (s : Section) → sum_answer (kept_sum (kept s)) ≡ sum_of (some s)
sum_for_lem s = by_size (kept s) (λ (b : Bool). sum_answer (cond b TooLarge (Finite (double_for s) (sum_for s).side)) ≡ sum_by s b) refl (λ f. refl)

pub finite_for : (k : ℤ) → FiniteSum (kept_sum k)
finite_for k = by_size k (λ (b : Bool). FiniteSum (cond b TooLarge (Finite (nearest_double k) (side (nearest_double k) k)))) tt (λ f. f)

pub figure_by_lem : (s : Section) → figure_of (some s) ≡ figure_by (sum_of (some s))
figure_by_lem s = by_size (kept s) (λ (b : Bool). cond b (refused 14) (outcome (ground 15 (beyond (figure_for s)) ∷ []) (figure_for s)) ≡ figure_by (sum_by s b)) refl (λ f. refl)

-- ---- what an accepted sum and an accepted line say

pub record SumGiven (s : Section) (x : RoundedSum) : Type 0 where
  pub is : sum_for s ≡ x
  pub small : too_large (kept s) ≡ false
  pub finite_sum : T (finite x.sum)

pub sum-given : (s : Section) (x : RoundedSum) → sum_of (some s) ≡ accepted x → SumGiven s x
sum-given s x e =
    let q = accepted-value (sum_grounds s) (sum_for s) e in
    let l = accepted_not 14 (sum_grounds s) (sum_for s) e in
    record { is = q; small = l; finite_sum = rw (← q) (double_finite (kept s) l) }

-- so the sum that is rounded is finite
pub rounded_finite : (s : Section) {t : SectionSum} {x : RoundedSum} → t ≡ kept_sum (kept s) → accepted x ≡ sum_answer t → finite x.sum ≡ true
rounded_finite s {t} {x} e q = is_true (finite x.sum) (sum-given s x (sym (sum_for_lem s) ∙ sym (ap sum_answer e) ∙ sym q)).finite_sum

pub record LineGiven (s : Section) (l : FinishedLine) : Type 0 where
  pub is : line_for s ≡ l
  pub small : too_large (kept s) ≡ false
  pub not_beyond : beyond (figure_for s) ≡ false
  pub finite_sum : T (finite l.sum)

pub line-given : (s : Section) (l : FinishedLine) → line_of (some s) ≡ accepted l → LineGiven s l
line-given s l e =
    let q = accepted-value (figure_grounds s) (line_for s) e in
    let small = accepted_not 14 (figure_grounds s) (line_for s) e in
    record { is = q; small = small; not_beyond = accepted_not 15 (figure_grounds s) (line_for s) e; finite_sum = rw (← q) (double_finite (kept s) small) }

-- ---- on a table

module _ {A : Type 0} (gs : Section → List Ground) (v : Section → A) (s : List ℕ) (g k : ℕ) where
  -- an answer that is accepted is that of the section that is found
  pub section_given : (x : A) → accepted x ≡ finishing (finished_by gs v) s g k → (t : Section) × (outcome (gs t) (v t) ≡ accepted x) × (find k (sections s g) ≡ some t)
  section_given x e = by (sound s g) (find k (sections s g)) e
    where
      by : (b : Bool) (o : Option Section) → accepted x ≡ cond b (finished_by gs v o) (refused 7) → (t : Section) × (outcome (gs t) (v t) ≡ accepted x) × (o ≡ some t)
      by true (some t) q = (t, sym q, refl)
      by true none q = absurd (accepted≢refused (sym q))
      by false o q = absurd (accepted≢refused (sym q))

  -- one that is refused has the lowest number whose condition holds
  pub finishing_lowest : ((t : Section) → rising_from 14 (gs t) ≡ true) → {n : ℕ} → finishing (finished_by gs v) s g k ≡ refused n → IsLowest n (finishing_grounds gs s g k)
  finishing_lowest rising {n} e =
      lowest 7 (finishing_grounds gs s g k) n (rises (find k (sections s g))) (by (sound s g) (find k (sections s g)) e)
    where
      rises : (o : Option Section) → rising_from 8 (found_grounds gs o) ≡ true
      rises none = refl
      rises (some t) = rising t

      by : (b : Bool) (o : Option Section) → cond b (finished_by gs v o) (refused 7) ≡ refused n → outcome (ground 7 (not b) ∷ found_grounds gs o) n ≡ refused n
      by false o q = ap refused cc
      by true none q = ap refused cc
      by true (some t) q = refused_alike (gs t) (v t) n q

  -- one that is accepted has none whose condition holds
  pub finishing-accepted : {x : A} → finishing (finished_by gs v) s g k ≡ accepted x → (n : ℕ) → condition n (finishing_grounds gs s g k) ≡ false
  finishing-accepted {x} e n = accepted_not n (finishing_grounds gs s g k) x (by (sound s g) (find k (sections s g)) e)
    where
      by : (b : Bool) (o : Option Section) → cond b (finished_by gs v o) (refused 7) ≡ accepted x → outcome (ground 7 (not b) ∷ found_grounds gs o) x ≡ accepted x
      by false o q = absurd (accepted≢refused q)
      by true none q = absurd (accepted≢refused q)
      by true (some t) q = ap (outcome (gs t)) (sym (accepted-value (gs t) (v t) q)) ∙ q

-- a number that is neither 13 nor one of the section's own is not given
pub finished_not : {A : Type 0} (n : ℕ) (gs : Section → List Ground) (v : Section → A) → eqb n 13 ≡ false → ((t : Section) → is_ground n (gs t) ≡ false) → (o : Option Section) → is_refusal n (finished_by gs v o) ≡ false
unfolding is_refusal
finished_not n gs v e h none = e
finished_not n gs v e h (some t) = not_given n (gs t) (v t) (h t)

pub sum_lowest : (s : List ℕ) (g k : ℕ) {n : ℕ} → sum_outcome s g k ≡ refused n → IsLowest n (finishing_grounds sum_grounds s g k)
sum_lowest s g k = finishing_lowest sum_grounds sum_for s g k (λ t. refl)

pub figure_lowest : (s : List ℕ) (g k : ℕ) {n : ℕ} → figure_outcome s g k ≡ refused n → IsLowest n (finishing_grounds figure_grounds s g k)
figure_lowest s g k = finishing_lowest figure_grounds figure_for s g k (λ t. refl)

pub line_lowest : (s : List ℕ) (g k : ℕ) {n : ℕ} → line_outcome s g k ≡ refused n → IsLowest n (finishing_grounds figure_grounds s g k)
line_lowest s g k = finishing_lowest figure_grounds line_for s g k (λ t. refl)

-- a float that a sum gives is finite
pub finite_rounded : (x : RoundedSum) (s : List ℕ) (g k : ℕ) → accepted x ≡ sum_outcome s g k → T (finite x.sum)
finite_rounded x s g k e = let t = section_given sum_grounds sum_for s g k x e in (sum-given t.0 x t.1).finite_sum

-- so is the sum of a line
pub finite_line : (l : FinishedLine) (s : List ℕ) (g k : ℕ) → accepted l ≡ line_outcome s g k → T (finite l.sum)
finite_line l s g k e = let t = section_given figure_grounds line_for s g k l e in (line-given t.0 l t.1).finite_sum

-- the double nearest to k units is read back from its bits
pub double_back : (k : ℤ) → of_bits binary64 (to_bits binary64 (nearest_double k)) ≡ nearest_double k
double_back k = of_bits-to_bits binary64 (nearest_double k) (double_fits k)

-- ---- on a table, by what a lookup says of it

-- what f gives for each answer of a lookup: for the section that is found, for none, and 7 for a table that is not sound
abbrev pub finished_lookup : {A : Type 0} → (Option Section → Outcome A) → Result SoundRecord Refusal → Outcome A
finished_lookup f (Ok r) = f (some (meaning r.raw))
finished_lookup f (Err SectionAbsent) = f none
finished_lookup f (Err e) = refused (number_of e)

-- finishing gives just that, whatever f is: so sum, figure, line and exactness need no look at the table but their lookup
pub finishing_by : {A : Type 0} (f : Option Section → Outcome A) (s : List ℕ) (g k : ℕ) (a : Result SoundRecord Refusal) → LookedUp a s g k → finished_lookup f a ≡ finishing f s g k
finishing_by f s g k (Ok r) l = rw (l.0, l.1)
finishing_by f s g k (Err e) (inl l) = rw (l.0, l.1, l.2)
finishing_by f s g k (Err e) (inr l) = rw (l.0, l.1)
