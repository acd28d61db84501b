-- What a table's row total is after an add, and how large it can be.
use Prim.Native.Nat.{ℕ, ◌+◌, ◌*◌, ◌^◌, ◌≤◌, ◌<◌}
use mathlib.Core.Path.{◌≡◌}
use mathlib.Core.Bool.{Bool, true, false, cond}
use mathlib.Core.List.{List, [], ◌∷◌}
use native.Mathlib.Omega.{arith}
use lib.Dec.{T, ltb, eqb}
use lib.ListN.{length}
use Rattle.lists.proofs.All.{All}
use Rattle.codec.proofs.Laws.{AreBytes}
use Rattle.columns.specs.Columns.{Row}
use Rattle.record.specs.Layout.{most_groups}
use Rattle.record.specs.Sound.{sound}
use Rattle.record.specs.Section.{Section, sections}
use Rattle.record.proofs.Sound.{sound_parts}
use Rattle.table.specs.Combine.{of_row, combine, absorb, added}
use Rattle.table.specs.Calls.{most_rows}
use Rattle.table.proofs.Bytes.{Storable}
use Rattle.table.proofs.State.{length-sections, sound_fits}
use Rattle.totals.specs.Totals.{row_total}

-- ---- an add loses no row and invents none

-- a section brought into a table brings all its rows, wherever it goes
pub row-total-absorb : (s : Section) (ts : List Section) → row_total (absorb s ts) ≡ row_total ts + s.count
unfolding row_total absorb combine
row-total-absorb s [] = omega arith
row-total-absorb s (t ∷ ts) = by (row-total-absorb s ts) (ltb s.key t.key) (eqb s.key t.key)
  where
    by : row_total (absorb s ts) ≡ row_total ts + s.count → (b c : Bool)
        → row_total (cond b (s ∷ t ∷ ts) (cond c (combine t s ∷ ts) (t ∷ absorb s ts))) ≡ t.count + row_total ts + s.count
    by ih true c = omega arith
    by ih false true = omega arith
    by ih false false = omega arith

pub row-total-added : (ts : List Section) (rs : List Row) → row_total (added ts rs) ≡ row_total ts + length rs
unfolding added of_row
row-total-added ts [] = omega arith
row-total-added ts (r ∷ rs) = omega (arith, row-total-added (absorb (of_row r) ts) rs, row-total-absorb (of_row r) ts)

-- ---- it fits 64 bits

pub row-total-bound : (ts : List Section) → All Storable ts → row_total ts ≤ most_rows * length ts
unfolding row_total
row-total-bound [] a = omega arith
row-total-bound (t ∷ ts) a = omega (arith, a.0.few, row-total-bound ts a.1)

-- of every sound table lent there are at most 1,024 × 4,294,967,295
pub row_total_most : (s : List ℕ) (g : ℕ) → AreBytes s → T (sound s g) → row_total (sections s g) ≤ most_groups * most_rows
row_total_most s g b ok = omega (arith, row-total-bound (sections s g) (sound_fits s g ok b), length-sections s g, (sound_parts s g ok).1)

pub row_total_fits : (s : List ℕ) (g : ℕ) → AreBytes s → T (sound s g) → row_total (sections s g) < 2 ^ 64
row_total_fits s g b ok = omega (arith, row_total_most s g b ok)
