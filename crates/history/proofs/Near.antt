-- A section's kept value and the exact sum of its rows: equal where every row is a whole multiple of the lowest level's unit, as it is at tops up to 2, within half a lowest unit for each row at any top that is at least
-- every row's, and at the largest top within (the number of its rows) × (its largest row in size) × 2^-80.
use Prim.Native.Nat.{ℕ, suc, ◌-◌, ◌*◌, ◌^◌, ◌≤◌, max}
use mathlib.Core.Path.{◌≡◌, ◌∙◌}
use mathlib.Core.List.{List, [], ◌∷◌}
use native.Mathlib.Omega.{arith}
use native.Mathlib.Nat.{mul-le-mul_left, le_trans, le_refl, le-max_left, le-max_right, sub-zero}
use native.Mathlib.Decide.{dec_le}
use lib.ListN.{length}
use lib.Dec.{leb-zero}
use lib.IntN.{pos, ◌-ℤ◌, ◌*ℤ◌, nat_abs, +ℤ_idl}
use Rattle.integers.proofs.Laws.{apart_comm, apart_none}
use Rattle.level.specs.Double.{magnitude}
use Rattle.level.specs.Level.{level_bound, unit, top, level_sum, top_of, total, exact_sum}
use Rattle.level.proofs.Given.{unit-suc}
use Rattle.level.proofs.Top.{top_least}
use Rattle.level.proofs.Section.{section_near, section_exact}
use Rattle.level.specs.Finest.{finest_of}
use Rattle.record.specs.Section.{kept, section_at_top, section_of}
use Rattle.history.specs.Rows.{largest}

-- ---- held at a top t
module _ (k t : ℕ) (bs : List ℕ) where
  -- the kept value is that of three levels of the rows' totals
  pub kept_levels : kept (section_at_top k t bs) ≡ level_sum (total bs) t 3
  unfolding kept level_sum section_at_top
  kept_levels = rw (sub-zero t, leb-zero t, +ℤ_idl (total bs t *ℤ pos (unit t)))

  -- where every row is a whole multiple of the lowest level's unit, nothing is lost; that unit is 1 for tops up to 2
  pub kept_exact : top_of bs ≤ t → 40 * (t - 2) ≤ finest_of bs → kept (section_at_top k t bs) ≡ exact_sum bs
  kept_exact h l = kept_levels ∙ section_exact bs t 2 h l

  -- half a lowest unit for each row
  pub kept-within : top_of bs ≤ t → nat_abs (kept (section_at_top k t bs) -ℤ exact_sum bs) * 2 ≤ length bs * unit (t - 2)
  kept-within h = rw (kept_levels, apart_comm (level_sum (total bs) t 3) (exact_sum bs)) (section_near bs t 2 h)

-- ---- held at the largest top
-- from 1 on, the largest row has 2^39 units of the level below
top-large : (bs : List ℕ) → 1 ≤ top_of bs → level_bound * unit (top_of bs - 1) ≤ largest bs
unfolding top_of largest
top-large [] h = absurd (omega arith)
top-large (b ∷ bs) h = go (top-large bs) (dec_le (top_of bs) (top b))
  where
    go : (1 ≤ top_of bs → level_bound * unit (top_of bs - 1) ≤ largest bs) → Dec (top_of bs ≤ top b)
        → level_bound * unit (max (top b) (top_of bs) - 1) ≤ max (magnitude b) (largest bs)
    go ih (yes l) =
        let m : max (top b) (top_of bs) ≡ top b = omega arith in
        rw m (le_trans ((top_least b).earlier (top b - 1) (omega arith) (omega arith)) (le-max_left (magnitude b) (largest bs)))
    go ih (no l) =
        let m : max (top b) (top_of bs) ≡ top_of bs = omega arith in
        rw m (le_trans (ih (omega arith)) (le-max_right (magnitude b) (largest bs)))

-- n rows, what they lose R, the unit U of the lowest kept level, the largest row L
bound : (n R U L : ℕ) → R * 2 ≤ n * U → level_bound * (2 ^ 40 * U) ≤ L → R * 2 ^ 80 ≤ n * L
bound n R U L h k = omega (arith, mul-le-mul_left n k)

pub kept_near : (k : ℕ) (bs : List ℕ) → nat_abs (kept (section_of k bs) -ℤ exact_sum bs) * 2 ^ 80 ≤ length bs * largest bs
kept_near k bs = go (dec_le (top_of bs) 2)
  where
    go : Dec (top_of bs ≤ 2) → nat_abs (kept (section_of k bs) -ℤ exact_sum bs) * 2 ^ 80 ≤ length bs * largest bs
    go (yes l) = rw (apart_none (kept (section_of k bs)) (exact_sum bs) (kept_exact k (top_of bs) bs (le_refl (top_of bs)) (omega arith))) (omega arith)
    go (no l) =
        let lower : top_of bs - 1 ≡ suc (top_of bs - 2) = omega arith in
        bound (length bs) (nat_abs (kept (section_of k bs) -ℤ exact_sum bs)) (unit (top_of bs - 2)) (largest bs)
        (kept-within k (top_of bs) bs (le_refl (top_of bs)))
        (rw (lower, unit-suc (top_of bs - 2)) at (top-large bs (omega arith)))
