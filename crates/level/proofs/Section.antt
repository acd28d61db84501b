-- Totals of rows, and what the levels from a top down hold of them, the top being at least every row's: the exact sum, or near it. The idea: sums over levels
-- are added row by row (`level_sum-add`), so that all rows together lose at most what each of them loses.
use mathlib.Core.Path.{◌≡◌, refl, sym, ap, ap₂, ◌∙◌}
use mathlib.Core.Bool.{Bool, true, false, cond}
use mathlib.Core.List.{List, [], ◌∷◌, ◌++◌}
use Prim.Native.Nat.{ℕ, zero, suc, ◌-◌, ◌*◌, ◌/◌, ◌%◌, ◌^◌, ◌≤◌, ◌<◌, max, zero-le}
use native.Mathlib.Nat.{le_refl, le_trans, div-add-mod', le-max_left, le-max_right}
use native.Mathlib.Omega.{arith}
use lib.Dec.{leb}
use lib.ListN.{length}
use lib.IntN.{ℤ, pos, nat_abs, ◌+ℤ◌, ◌-ℤ◌, ◌*ℤ◌, +ℤ_idl, +ℤ_assoc, +ℤ_comm, zero-*ℤ, +ℤ-neg_ℤ_cancel}
use Rattle.level.specs.Double.{negative, magnitude, value}
use Rattle.level.specs.Level.{level_bound, unit, top, contribution, below, level_sum, top_of, total, exact_sum}
use Rattle.level.specs.Finest.{finest_of}
use Rattle.integers.proofs.Laws.{+ℤ-*ℤ, -ℤ-interchange, nat_abs-+ℤ}
use Rattle.integers.proofs.Diff.{+ℤ-interchange}
use Rattle.level.proofs.Top.{contribution_above, contribution-bound}
use Rattle.level.proofs.Kept.{left_after, after_half, after_exact, level_sum-row, level_sum_all}
use Rattle.level.proofs.Finest.{Multiples, multiples_upto}
use Rattle.level.proofs.Signs.{nat_abs-signed}

-- ---- tops and totals of rows
pub top_of-append : (bs cs : List ℕ) → top_of (bs ++ cs) ≡ max (top_of bs) (top_of cs)
unfolding top_of
top_of-append [] cs = omega arith
top_of-append (b ∷ bs) cs = omega (arith, top_of-append bs cs)

pub total-append : (bs cs : List ℕ) (j : ℕ) → total (bs ++ cs) j ≡ total bs j +ℤ total cs j
unfolding total
total-append [] cs j = sym (+ℤ_idl (total cs j))
total-append (b ∷ bs) cs j = rw (total-append bs cs j) (sym (+ℤ_assoc (contribution b j) (total bs j) (total cs j)))

-- levels above every row's top hold 0
pub total_above : (bs : List ℕ) (j : ℕ) → top_of bs < j → total bs j ≡ pos 0
unfolding total top_of
total_above [] j h = refl
total_above (b ∷ bs) j h = rw (contribution_above b j (omega arith), total_above bs j (omega arith))

-- no total exceeds 2^39 for each row
pub total-bound : (bs : List ℕ) (j : ℕ) → nat_abs (total bs j) ≤ length bs * level_bound
unfolding total
total-bound [] j = zero-le
total-bound (b ∷ bs) j = omega (arith, nat_abs-+ℤ (contribution b j) (total bs j), contribution-bound b j, total-bound bs j)

-- ---- families of totals are added level by level
below-sum : (g h : ℕ → ℤ) (t k : ℕ) → below (λ (j : ℕ). g j +ℤ h j) t k ≡ below g t k +ℤ below h t k
below-sum g h t k = by (leb k t)
  where
    by : (b : Bool) → cond b (g (t - k) +ℤ h (t - k)) (pos 0) ≡ cond b (g (t - k)) (pos 0) +ℤ cond b (h (t - k)) (pos 0)
    by true = refl
    by false = refl

pub level_sum-add : (g h : ℕ → ℤ) (t n : ℕ) → level_sum (λ (j : ℕ). g j +ℤ h j) t n ≡ level_sum g t n +ℤ level_sum h t n
unfolding level_sum
level_sum-add g h t zero = refl
level_sum-add g h t (suc n) =
    let u = pos (unit (t - n)) in
    ap₂ ◌+ℤ◌ (level_sum-add g h t n) (ap (λ (z : ℤ). z *ℤ u) (below-sum g h t n) ∙ +ℤ-*ℤ (below g t n) (below h t n) u)
    ∙ +ℤ-interchange (level_sum g t n) (level_sum h t n) (below g t n *ℤ u) (below h t n *ℤ u)

level_sum-none : (t n : ℕ) → level_sum (λ (j : ℕ). pos 0) t n ≡ pos 0
unfolding level_sum
level_sum-none t zero = refl
level_sum-none t (suc n) =
    let u = pos (unit (t - n)) in
    ap₂ ◌+ℤ◌ (level_sum-none t n) (ap (λ (z : ℤ). z *ℤ u) (by (leb n t)) ∙ zero-*ℤ u)
  where
    by : (b : Bool) → cond b (pos 0) (pos 0) ≡ pos 0
    by true = refl
    by false = refl

-- ---- the distance of one row, and of all
row_near : (b t n : ℕ) → top b ≤ t → nat_abs (value b -ℤ level_sum (contribution b) t (suc n)) * 2 ≤ unit (t - n)
row_near b t n h =
    let k = level_sum (contribution b) t (suc n) in
    let l = left_after t (value b) (suc n) in
    let e : value b -ℤ k ≡ l = ap (λ (z : ℤ). z -ℤ k) (sym (level_sum-row b t (suc n) h) ∙ +ℤ_comm k l) ∙ +ℤ-neg_ℤ_cancel l k in
    rw e (after_half t (value b) n)

pub section_near : (bs : List ℕ) (t n : ℕ) → top_of bs ≤ t → nat_abs (exact_sum bs -ℤ level_sum (total bs) t (suc n)) * 2 ≤ length bs * unit (t - n)
unfolding top_of total exact_sum
section_near [] t n h = let e : level_sum (total []) t (suc n) ≡ pos 0 = level_sum-none t (suc n) in rw e zero-le
section_near (b ∷ bs) t n h =
    let v = level_sum (contribution b) t (suc n) in
    let w = level_sum (total bs) t (suc n) in
    let one = row_near b t n (le_trans (le-max_left (top b) (top_of bs)) h) in
    let rest = section_near bs t n (le_trans (le-max_right (top b) (top_of bs)) h) in
    let sizes = nat_abs-+ℤ (value b -ℤ v) (exact_sum bs -ℤ w) in
    rw (level_sum-add (contribution b) (total bs) t (suc n), -ℤ-interchange (value b) (exact_sum bs) v w) (omega arith)

-- ---- where every row is a whole number of the last level's units, nothing is lost
row_exact : (b t n : ℕ) → top b ≤ t → magnitude b % unit (t - n) ≡ 0 → level_sum (contribution b) t (suc n) ≡ value b
row_exact b t n h m =
    let e = 40 * (t - n) in
    level_sum_all b t (suc n) h (after_exact t (value b) n e (magnitude b / 2 ^ e) (nat_abs-signed (negative b) (magnitude b) ∙ whole (magnitude b) (unit (t - n)) m) (le_refl e))
  where
    whole : (x u : ℕ) → x % u ≡ 0 → x ≡ x / u * u
    whole x u m = omega (arith, div-add-mod' x u)

multiples_exact : (bs : List ℕ) (t n : ℕ) → top_of bs ≤ t → Multiples (40 * (t - n)) bs → level_sum (total bs) t (suc n) ≡ exact_sum bs
unfolding top_of total exact_sum
multiples_exact [] t n h m = level_sum-none t (suc n)
multiples_exact (b ∷ bs) t n h m =
    level_sum-add (contribution b) (total bs) t (suc n)
    ∙ ap₂ ◌+ℤ◌ (row_exact b t n (omega arith) m.0) (multiples_exact bs t n (omega arith) m.1)

-- the finest power tells whether they are; a unit of 1, as of level 0, needs none
pub section_exact : (bs : List ℕ) (t n : ℕ) → top_of bs ≤ t → 40 * (t - n) ≤ finest_of bs → level_sum (total bs) t (suc n) ≡ exact_sum bs
section_exact bs t n h l = multiples_exact bs t n h (multiples_upto bs (40 * (t - n)) l)
