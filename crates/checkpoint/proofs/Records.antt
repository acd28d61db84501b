-- The records of a sound table, copied to the front of other bytes, are that table.
use Prim.Native.Nat.{ℕ, ◌+◌, ◌*◌, ◌≤◌}
use mathlib.Core.Path.{◌≡◌, ap, ◌∙◌}
use mathlib.Core.Bool.{true}
use mathlib.Core.List.{List, ◌++◌}
use native.Mathlib.Omega.{arith}
use native.Mathlib.Nat.{mul_comm}
use lib.Dec.{T}
use lib.Ieee.Bits.{is_true}
use lib.ListN.{length, take, length-append}
use lib.Seq.{length-take-le, take_at}
use Rattle.record.specs.Layout.{records}
use Rattle.record.specs.Sound.{sound}
use Rattle.record.proofs.Sound.{sound_parts}
use Rattle.table.proofs.State.{records_agree, sound_agree}

module _ (s : List ℕ) (g : ℕ) (ok : sound s g ≡ true) where
  is_sound_lem : T (sound s g)
  is_sound_lem = rw ok tt

  -- they lie in the bytes
  pub inside : 64 * g ≤ length s
  inside = omega (arith, (sound_parts s g is_sound_lem).0)

  pub length-records : length (take (64 * g) s) ≡ 64 * g
  length-records = length-take-le (64 * g) s inside

  module _ (rest : List ℕ) where
    used_agree : take (g * 64) (take (64 * g) s ++ rest) ≡ take (g * 64) s
    used_agree = rw (mul_comm g 64) (take_at (take (64 * g) s) rest (64 * g) length-records)

    inside-copy : g * 64 ≤ length (take (64 * g) s ++ rest)
    inside-copy = let l : length (take (64 * g) s ++ rest) ≡ 64 * g + length rest = length-append (take (64 * g) s) rest ∙ ap (λ (k : ℕ). k + length rest) length-records in omega arith

    pub same-records : records (take (64 * g) s ++ rest) g ≡ records s g
    same-records = records_agree (take (64 * g) s ++ rest) s g used_agree inside-copy (omega (arith, inside))

    pub still_sound : sound (take (64 * g) s ++ rest) g ≡ true
    still_sound = is_true (sound (take (64 * g) s ++ rest) g) (sound_agree (take (64 * g) s ++ rest) s g used_agree inside-copy (omega (arith, inside)) is_sound_lem)
