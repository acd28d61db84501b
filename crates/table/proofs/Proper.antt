-- The conditions on a sound record, read on its section; adding and merging keep them. The idea: every section is made from a family of totals, and is
-- proper where the rows bound each total (`section_at_proper`).
use Prim.Native.Nat.{ℕ, ◌+◌, ◌-◌, ◌*◌, ◌^◌, ◌≤◌, ◌<◌, max, min}
use mathlib.Core.Path.{◌≡◌}
use mathlib.Core.Bool.{Bool, true, false, cond}
use mathlib.Core.List.{List, [], ◌∷◌, map}
use native.Mathlib.Omega.{arith}
use lib.Dec.{leb, eqb}
use lib.IntN.{ℤ, pos, ◌+ℤ◌, nat_abs}
use borrow.Author.Tests.{lt-leb}
use Rattle.integers.proofs.Laws.{nat_abs-+ℤ}
use Rattle.level.specs.Level.{level_bound, below, top, contribution}
use Rattle.level.specs.Finest.{highest_power, finest}
use Rattle.level.proofs.Top.{top-le, contribution-bound}
use Rattle.level.proofs.Finest.{finest_of-le}
use Rattle.record.specs.Section.{Section, section_at}
use Rattle.columns.specs.Columns.{Row}
use Rattle.table.specs.Combine.{of_row, level_of, combine, absorb, merged, added}
use Rattle.lists.proofs.All.{All}
use Rattle.table.proofs.Lookup.{absorb-cases, added-merged}

-- all conditions but that the row count fits its field
pub record Proper (s : Section) : Type 0 where
  pub key : s.key < 2 ^ 32
  pub count : 1 ≤ s.count
  pub top : s.top ≤ 52
  pub finest : s.finest ≤ highest_power
  pub high : nat_abs s.high ≤ s.count * level_bound
  pub middle : nat_abs s.middle ≤ s.count * level_bound
  pub low : nat_abs s.low ≤ s.count * level_bound
  pub no_middle : s.top < 1 → s.middle ≡ pos 0
  pub no_low : s.top < 2 → s.low ≡ pos 0

-- ---- bounds of levels
cond_bound : (m : ℕ) (b : Bool) (x y : ℤ) → nat_abs x ≤ m → nat_abs y ≤ m → nat_abs (cond b x y) ≤ m
cond_bound m true x y p q = p
cond_bound m false x y p q = q

level_of-bound : (s : Section) → Proper s → (j : ℕ) → nat_abs (level_of s j) ≤ s.count * level_bound
unfolding level_of
level_of-bound s p j =
    let m = s.count * level_bound in
    cond_bound m (eqb j s.top) s.high _ p.high
    (cond_bound m (eqb (j + 1) s.top) s.middle _ p.middle (cond_bound m (eqb (j + 2) s.top) s.low (pos 0) p.low (omega arith)))

module _ (k n t z : ℕ) (f : ℕ → ℤ) (bound : (j : ℕ) → nat_abs (f j) ≤ n * level_bound) where
  below-bound : (i : ℕ) → nat_abs (below f t i) ≤ n * level_bound
  below-bound i = cond_bound (n * level_bound) (leb i t) (f (t - i)) (pos 0) (bound (t - i)) (omega arith)

  pub section_at_proper : k < 2 ^ 32 → 1 ≤ n → t ≤ 52 → z ≤ highest_power → Proper (section_at k n t z f)
  section_at_proper h c l m = record {
    key = h;
    count = c;
    top = l;
    finest = m;
    high = below-bound 0;
    middle = below-bound 1;
    low = below-bound 2;
    no_middle = λ q. rw (lt-leb 1 t q);
    no_low = λ q. rw (lt-leb 2 t q);
  }

-- ---- what adding and merging make
pub row_proper : (r : Row) → r.key < 2 ^ 32 → Proper (of_row r)
unfolding of_row
row_proper r h =
    section_at_proper r.key 1 (top r.bits) (finest r.bits) (contribution r.bits) (λ j. omega (arith, contribution-bound r.bits j)) h (omega arith) (top-le r.bits) (finest_of-le (r.bits ∷ []))

pub combine_proper : (s t : Section) → Proper s → Proper t → Proper (combine s t)
unfolding combine
combine_proper s t p q =
    section_at_proper s.key (s.count + t.count) (max s.top t.top) (min s.finest t.finest) (λ j. level_of s j +ℤ level_of t j)
    (λ j. omega (arith, nat_abs-+ℤ (level_of s j) (level_of t j), level_of-bound s p j, level_of-bound t q j))
    p.key (omega (arith, p.count)) (omega (arith, p.top, q.top)) (omega (arith, p.finest))

pub absorb_proper : (s : Section) → Proper s → (ts : List Section) → All Proper ts → All Proper (absorb s ts)
absorb_proper s p =
    absorb-cases (λ (ts us : List Section). All Proper ts → All Proper us) s
    (λ a. (p, tt)) (λ t ts h a. (p, a)) (λ t ts h a. (combine_proper t s a.0 p, a.1)) (λ t ts h ih a. (a.0, ih a.1))

pub merged_proper : (ts ss : List Section) → All Proper ts → All Proper ss → All Proper (merged ts ss)
unfolding merged
merged_proper ts [] a b = a
merged_proper ts (s ∷ ss) a b = merged_proper (absorb s ts) ss (absorb_proper s b.0 ts a) b.1

rows_proper : (rs : List Row) → All (λ (r : Row). r.key < 2 ^ 32) rs → All Proper (map of_row rs)
rows_proper [] a = tt
rows_proper (r ∷ rs) a = (row_proper r a.0, rows_proper rs a.1)

pub added_proper : (ts : List Section) (rs : List Row) → All Proper ts → All (λ (r : Row). r.key < 2 ^ 32) rs → All Proper (added ts rs)
added_proper ts rs a b = rw (added-merged ts rs) (merged_proper ts (map of_row rs) a (rows_proper rs b))
