-- What is known of a place in a sound table.
use Prim.Native.Nat.{ℕ, ◌<◌}
use mathlib.Core.Path.{◌≡◌}
use mathlib.Core.List.{List}
use native.Mathlib.Omega.{arith}
use lib.Dec.{T}
use Rattle.std.specs.Prelude.{Result, Ok, Err, IfOk}
use Rattle.record.specs.Layout.{records}
use Rattle.record.specs.Keys.{record_keys, place}
use Rattle.record.specs.Sound.{sound}
use Rattle.record.proofs.Laws.{length-keys}
use Rattle.record.proofs.Order.{place_is_at}
use Rattle.record.proofs.Sound.{sound_parts}

-- where a key stands is within the table
pub place_within : (s : List ℕ) (g k : ℕ) → T (sound s g) → (r : Result ℕ ℕ) → r ≡ place k (record_keys (records s g)) → IfOk r (λ i. i < g)
place_within s g k sd (Ok i) e = omega (arith, (place_is_at k (record_keys (records s g)) i (sound_parts s g sd).2 e).0, length-keys s g)
place_within s g k sd (Err i) e = tt
