-- What the steps from a table to an answer promise each other.
use Rattle.std.specs.Prelude.{ℕ, ◌+◌, ◌≡◌, Bool, true, false, cond, List, T, leb, ℤ, ◌⊎◌, Result, Ok, Err}
use Rattle.std.proofs.Math.Option.{none, some}
use Rattle.std.specs.Float.{binary64}
use Rattle.std.specs.Float.Ieee.{of_bits}
use Rattle.std.specs.Float.Ieee.Scale.{finite}
use Rattle.refusal.specs.Outcome.{Outcome, accepted, refused}
use Rattle.record.specs.Sound.{sound}
use Rattle.record.specs.Section.{meaning, sections, find}
use Rattle.limbs.specs.Packed.{infinite, sign_bit}
use Rattle.finish.specs.Sum.{nearest_double, too_large}
use Rattle.std.specs.declared.cmp.Ordering.{Ordering}
use Rattle.finish.specs.Side.{side, signed_side}
use Rattle.finish.specs.Finish.{RoundedSum}
use Rattle.finish.specs.Figure.{mill_figure, beyond}
use Rattle.finish.specs.declared.SectionSum.{SectionSum}
use Rattle.finish.specs.declared.SectionSum.TheVariants.{Finite, Absent, TooLarge, NotSound}
use Rattle.soundness.specs.declared.sound.SoundRecord.{SoundRecord}
use Rattle.refusal.specs.declared.Refusal.{Refusal}
use Rattle.refusal.specs.declared.Refusal.TheVariants.{SectionAbsent, TableNotSound}

-- what a lookup of section k says of a table
abbrev pub LookedUp : Result SoundRecord Refusal → List ℕ → ℕ → ℕ → Type 0
LookedUp (Ok r) s g k = (sound s g ≡ true) × (find k (sections s g) ≡ some (meaning r.raw))
LookedUp (Err e) s g k = (e ≡ SectionAbsent) × (sound s g ≡ true) × (find k (sections s g) ≡ none) ⊎ (e ≡ TableNotSound) × (sound s g ≡ false)

-- the answer for a kept value
abbrev pub kept_sum : ℤ → SectionSum
kept_sum k = cond (too_large k) TooLarge (Finite (nearest_double k) (side (nearest_double k) k))

-- what a sign and the other 63 bits stand for, d being the side of the size: from the exponent field 2047 on the sum is too large
abbrev pub sum_of_bits : ℕ → Bool → Ordering → SectionSum
sum_of_bits b s d = cond (leb infinite b) TooLarge (Finite (of_bits binary64 (sign_bit s + b)) (signed_side s d))

-- a sum that is no infinity and no NaN
abbrev pub FiniteSum : SectionSum → Type 0
FiniteSum (Finite x d) = T (finite x)
FiniteSum Absent = Unit
FiniteSum TooLarge = Unit
FiniteSum NotSound = Unit

-- the mill figure, by the sum's outcome
abbrev pub figure_by : Outcome RoundedSum → Outcome ℤ
figure_by (accepted x) = cond (beyond (mill_figure x.sum)) (refused 15) (accepted (mill_figure x.sum))
figure_by (refused n) = refused n
