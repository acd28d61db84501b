use Prim.Native.Nat.{ℕ}
use mathlib.Core.Path.{◌≡◌}
use mathlib.Core.Bool.{Bool, ◌&&◌}
use mathlib.Core.List.{List}
use lib.ListN.{drop}
use Rattle.record.specs.Layout.{records}
use Rattle.record.specs.Keys.{record_keys, rising}
use Rattle.record.specs.Sound.{sound_records}
use Rattle.soundness.proofs.records_sound.Given as goal

-- the records from i on
abbrev from : List ℕ → ℕ → ℕ → Bool
from s g i = rising (drop i (record_keys (records s g))) && sound_records (drop i (records s g))

abbrev pub invariant-loop-i : goal.invariant-loop-i
invariant-loop-i l = from l.t l.g l.i ≡ (rising (record_keys (records l.t l.g)) && sound_records (records l.t l.g))
