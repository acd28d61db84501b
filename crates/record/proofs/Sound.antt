-- Laws of soundness.
use Prim.Native.Nat.{ℕ, zero, suc, ◌*◌, ◌<◌, ◌≤◌}
use mathlib.Core.Bool.{◌&&◌}
use mathlib.Core.List.{List, [], ◌∷◌}
use native.Mathlib.Omega.{arith}
use lib.Dec.{T, leb, leb→le, le→leb}
use lib.Ieee.Fits.{and_l, and_r, and_i}
use lib.ListN.{length, get_or}
use Rattle.record.specs.declared.Record.{Record}
use Rattle.record.specs.Keys.{record_keys, rising}
use Rattle.record.specs.Layout.{most_groups, records, capacity}
use Rattle.record.specs.Sound.{sound_record, sound_records, sound}

-- ---- a sound table, part by part

pub sound_parts : (s : List ℕ) (g : ℕ) → T (sound s g) → (g * 64 ≤ length s) × (g ≤ most_groups) × T (rising (record_keys (records s g))) × T (sound_records (records s g))
unfolding sound
sound_parts s g t =
    let a = leb g (capacity (length s)) in
    let c = rising (record_keys (records s g)) in
    let d = sound_records (records s g) in
    let h = leb→le g (capacity (length s)) (and_l a (c && d) t) in
    (omega arith, omega arith, and_l c d (and_r a (c && d) t), and_r c d (and_r a (c && d) t))

pub sound_if : (s : List ℕ) (g : ℕ) → g * 64 ≤ length s → g ≤ most_groups → T (rising (record_keys (records s g))) → T (sound_records (records s g)) → T (sound s g)
unfolding sound
sound_if s g h k r t =
    and_i (leb g (capacity (length s))) (rising (record_keys (records s g)) && sound_records (records s g))
    (le→leb g (capacity (length s)) (omega arith))
    (and_i (rising (record_keys (records s g))) (sound_records (records s g)) r t)

pub sound_at : (rs : List Record) (i : ℕ) (d : Record) → i < length rs → T (sound_records rs) → T (sound_record (get_or rs i d))
unfolding sound_records
sound_at [] i d l t = absurd (omega arith)
sound_at (x ∷ xs) zero d l t = and_l (sound_record x) (sound_records xs) t
sound_at (x ∷ xs) (suc i) d l t = sound_at xs i d (omega arith) (and_r (sound_record x) (sound_records xs) t)
