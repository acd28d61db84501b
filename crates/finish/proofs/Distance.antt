-- The sum of a sound record, by the distance of its biased totals from their biases: its size is the kept value's, 80 digits up, and its sign the kept value's.
use mathlib.Core.Path.{◌≡◌, ◌∙◌}
use mathlib.Core.Bool.{not}
use Prim.Native.Nat.{ℕ, ◌*◌, ◌/◌, ◌^◌, ◌<◌}
use mathlib.Core.List.{List}
use lib.Ieee.{binary64, of_bits}
use lib.IntN.{ℤ, nat_abs}
use lib.Signed.{non_neg}
use Rattle.std.proofs.Common.{Equal}
use Rattle.record.specs.Section.{kept, meaning}
use Rattle.soundness.specs.declared.sound.SoundRecord.{SoundRecord}
use Rattle.limbs.specs.declared.SignMagnitude.{SignMagnitude}
use Rattle.limbs.specs.Limbs.{value_of, SignedDifference}
use Rattle.limbs.specs.Packed.{packed}
use Rattle.limbs.specs.Side.{packed_side}
use Rattle.finish.specs.declared.SectionSum.TheVariants.{Finite}
use Rattle.finish.specs.Biased.{total_bias, biased_total, Stacked}
use Rattle.finish.specs.Steps.{kept_sum, sum_of_bits}
use Rattle.finish.proofs.Whole.{kept_size, units_exact, no_sign, no_size}
use Rattle.finish.proofs.Sums.{sum_of_kept, sum_of_zero}

module _ (r : SoundRecord) (d : SignMagnitude) where
  abbrev k : ℤ
  k = kept (meaning r.raw)

  abbrev v : ℕ
  v = value_of d.magnitude.limbs

  -- d is that distance, of the limbs of the biased totals from those of the biases
  module _ {totals biases : List ℕ} (few : r.raw.count < 2 ^ 32)
      (p : Stacked (biased_total r.raw.high) (biased_total r.raw.middle) (biased_total r.raw.low) totals)
      (q : Stacked total_bias total_bias total_bias biases)
      (e : SignedDifference d.negative v (value_of totals) (value_of biases)) where
    sized : (nat_abs k * 2 ^ 80 ≡ v * 2 ^ (40 * r.raw.top)) × (not (non_neg k) ≡ d.negative)
    sized = kept_size r.raw v _ _ d.negative few r.sound p.same q.same e

    units_are : v * 2 ^ (40 * r.raw.top) / 2 ^ 80 ≡ nat_abs k
    units_are = units_exact (nat_abs k) v _ sized.0

    pub whole_units : v * 2 ^ (40 * r.raw.top) / 2 ^ 80 * 2 ^ 80 ≡ v * 2 ^ (40 * r.raw.top)
    whole_units = rw units_are sized.0

    pub sum_of_none : v ≡ 0 → Finite (of_bits binary64 0) Equal ≡ kept_sum k
    sum_of_none z = sum_of_zero k (no_size (nat_abs k) v _ sized.0 z) (sized.1 ∙ no_sign v d.negative _ _ z e)

    pub sum_of_units : sum_of_bits (packed (v * 2 ^ (40 * r.raw.top) / 2 ^ 80)) d.negative (packed_side (v * 2 ^ (40 * r.raw.top) / 2 ^ 80)) ≡ kept_sum k
    sum_of_units = rw (units_are, ← sized.1) (sum_of_kept k)
