-- Sections of rows at any top that is at least every row's: what they hold, and that two of them combine to the section of all their rows.
use Prim.Native.Nat.{ℕ, ◌+◌, ◌≤◌, max, min}
use mathlib.Core.Path.{◌≡◌, refl, sym, ◌∙◌, ap}
use mathlib.Core.List.{List, [], ◌∷◌, ◌++◌, append-nil}
use mathlib.Core.Option.{some}
use native.Mathlib.Omega.{arith}
use native.Mathlib.Nat.{le_refl}
use lib.ListN.{length, length-append}
use lib.IntN.{pos, ◌+ℤ◌, +ℤ_idr}
use Rattle.level.specs.Level.{top, contribution, top_of, total}
use Rattle.level.specs.Finest.{finest_of, finest}
use Rattle.level.proofs.Finest.{finest_of-append}
use Rattle.level.proofs.Section.{top_of-append, total-append, total_above}
use Rattle.columns.specs.Columns.{Row}
use Rattle.table.specs.Combine.{of_row, level_of, combine}
use Rattle.table.proofs.Combine.{level_of_at, section_at_cong, section_at-combine, combine_comm}
use Rattle.table.proofs.Lookup.{join, join_none}
use Rattle.record.specs.Section.{section_at_top, section_of}
use Rattle.history.specs.Canonical.{section_if}

-- ---- held at a top t
pub section_key : (k t : ℕ) (bs : List ℕ) → (section_at_top k t bs).key ≡ k
unfolding section_at_top
section_key k t bs = refl

pub section_count : (k t : ℕ) (bs : List ℕ) → (section_at_top k t bs).count ≡ length bs
unfolding section_at_top
section_count k t bs = refl

pub section_finest : (k t : ℕ) (bs : List ℕ) → (section_at_top k t bs).finest ≡ finest_of bs
unfolding section_at_top
section_finest k t bs = refl

-- at its three levels, and above them, it holds the rows' totals
pub section_total : (k t : ℕ) (bs : List ℕ) (j : ℕ) → top_of bs ≤ t → t ≤ j + 2 → level_of (section_at_top k t bs) j ≡ total bs j
unfolding section_at_top
section_total k t bs j h l = level_of_at k (length bs) t (finest_of bs) (total bs) j l (λ q. total_above bs j (omega arith))

pub combine-sections : (k t u : ℕ) (bs cs : List ℕ) → top_of bs ≤ t → top_of cs ≤ u
    → combine (section_at_top k t bs) (section_at_top k u cs) ≡ section_at_top k (max t u) (bs ++ cs)
unfolding section_at_top
combine-sections k t u bs cs h l =
    section_at-combine k (length bs) (length cs) t u (finest_of bs) (finest_of cs) (total bs) (total cs) (λ j q. total_above bs j (omega arith)) (λ j q. total_above cs j (omega arith))
    ∙ section_at_cong k (length bs + length cs) (max t u) (min (finest_of bs) (finest_of cs)) (λ j. total bs j +ℤ total cs j) (total (bs ++ cs)) (λ j q. sym (total-append bs cs j))
    ∙ rw (length-append bs cs, finest_of-append bs cs)

-- ---- held at the largest top
-- a row by itself
pub row_section : (r : Row) → of_row r ≡ section_of r.key (r.bits ∷ [])
unfolding of_row section_at_top top_of total
row_section r =
    let m : max (top r.bits) 0 ≡ top r.bits = omega arith in
    section_at_cong r.key 1 (top r.bits) (finest r.bits) (contribution r.bits) (λ j. contribution r.bits j +ℤ pos 0) (λ j h. sym (+ℤ_idr (contribution r.bits j)))
    ∙ rw m

-- where there may be no rows
pub join_sections : (k : ℕ) (bs cs : List ℕ) → join (section_if k bs) (section_if k cs) ≡ section_if k (bs ++ cs)
unfolding join section_if
join_sections k [] cs = refl
join_sections k (b ∷ bs) [] = ap (λ (xs : List ℕ). some (section_of k (b ∷ xs))) (sym (append-nil bs))
join_sections k (b ∷ bs) (c ∷ cs) =
    ap some
    (combine-sections k (top_of (b ∷ bs)) (top_of (c ∷ cs)) (b ∷ bs) (c ∷ cs) (le_refl (top_of (b ∷ bs))) (le_refl (top_of (c ∷ cs)))
    ∙ ap (λ (t : ℕ). section_at_top k t ((b ∷ bs) ++ (c ∷ cs))) (sym (top_of-append (b ∷ bs) (c ∷ cs))))

pub join_comm : (k : ℕ) (bs cs : List ℕ) → join (section_if k bs) (section_if k cs) ≡ join (section_if k cs) (section_if k bs)
unfolding join section_if
join_comm k [] cs = sym (join_none (section_if k cs))
join_comm k (b ∷ bs) [] = refl
join_comm k (b ∷ bs) (c ∷ cs) =
    ap some (combine_comm (section_of k (b ∷ bs)) (section_of k (c ∷ cs)) (section_key k (top_of (b ∷ bs)) (b ∷ bs) ∙ sym (section_key k (top_of (c ∷ cs)) (c ∷ cs))))
