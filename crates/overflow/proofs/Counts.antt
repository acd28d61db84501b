-- Row counts after an add: those held and those brought. So whether a row count overflows can be seen before any row is added.
use Prim.Native.Nat.{ℕ, ◌+◌, ◌≤◌, ◌<◌}
use mathlib.Core.Path.{◌≡◌, refl, sym, ap, ap₂, ◌∙◌}
use mathlib.Core.Bool.{Bool, true, false, cond, ◌||◌, or-true, true≢false}
use mathlib.Core.List.{List, [], ◌∷◌, map}
use mathlib.Core.Option.{Option, none, some}
use native.Mathlib.Omega.{arith}
use native.Mathlib.Decide.{ℕ_discrete}
use borrow.Author.Tests.{lt-ltb, ltb-true, eq-eqb, ne_eqb}
use lib.Dec.{ltb, eqb}
use Rattle.codec.specs.Bytes.{number}
use Rattle.codec.proofs.Cells.{length-cells}
use Rattle.columns.specs.declared.Kind.{Kind}
use Rattle.columns.specs.Columns.{Row, column_row_count, rows_of, column_keys}
use Rattle.record.specs.Section.{Section, find}
use Rattle.table.specs.Combine.{of_row, combine, absorb, added}
use Rattle.table.specs.Calls.{most_rows, overflows}
use Rattle.lists.specs.Lists.{any_of, occurrences}
use Rattle.lists.proofs.Booleans.{same_test}
use Rattle.lists.proofs.All.{All}
use Rattle.lists.proofs.Any.{any_true, any_occurs}
use Rattle.table.proofs.Lookup.{Rising, keys_in, above_rising, find_nil, find_head, find_tail, find_above, absorb-cases, absorb-rising, added-rising, find-absorb, join, only, only_is, only_not, join_none}
use Rattle.overflow.specs.Counts.{count_of, count_in, count_overflows}
use Rattle.lists.proofs.Scanning.{occurrences-le}
use Rattle.columns.proofs.Cells.{row-keys}

-- ---- a test of sections by number and row count
module _ (p : ℕ → ℕ → Bool) where
  abbrev test : Section → Bool
  test s = p s.key s.count

  -- a section that has p has a number that does
  pub any_count : (ts : List Section) → All (λ (s : Section). 1 ≤ s.count) ts → Rising (keys_in ts) → any_of test ts ≡ true
      → (k : ℕ) × (0 < count_in k ts) × (p k (count_in k ts) ≡ true)
  unfolding any_of
  any_count [] a r e = absurd (true≢false (sym e))
  any_count (t ∷ ts) a r e = by (test t) refl e (any_count ts a.1 (above_rising t.key (keys_in ts) r))
    where
      head : (k : ℕ) → k ≡ t.key → count_in k (t ∷ ts) ≡ t.count
      head k q = ap count_of (find_head k t ts q)

      by : (b : Bool) → test t ≡ b → (b || any_of test ts) ≡ true
          → (any_of test ts ≡ true → (k : ℕ) × (0 < count_in k ts) × (p k (count_in k ts) ≡ true))
          → (k : ℕ) × (0 < count_in k (t ∷ ts)) × (p k (count_in k (t ∷ ts)) ≡ true)
      by true q e' ih = let h = head t.key refl in (t.key, omega (arith, a.0), rw h q)
      by false q e' ih =
          let w = ih e' in
          let no : w.0 ≡ t.key → ⊥ = λ m. omega (arith, w.1, ap count_of (find_above t.key w.0 ts r (omega arith))) in
          let h : count_in w.0 (t ∷ ts) ≡ count_in w.0 ts = ap count_of (find_tail w.0 t ts no) in
          (w.0, omega (arith, w.1), rw h w.2)

  -- and a number that has p belongs to such a section
  pub count_any : (k : ℕ) (ts : List Section) → 0 < count_in k ts → p k (count_in k ts) ≡ true → any_of test ts ≡ true
  unfolding any_of
  count_any k [] h e = absurd (omega (arith, ap count_of (find_nil k)))
  count_any k (t ∷ ts) h e = by (ℕ_discrete k t.key) (count_any k ts)
    where
      by : Dec (k ≡ t.key) → (0 < count_in k ts → p k (count_in k ts) ≡ true → any_of test ts ≡ true) → (test t || any_of test ts) ≡ true
      by (yes q) ih =
          let c : count_in k (t ∷ ts) ≡ t.count = ap count_of (find_head k t ts q) in
          ap (λ (b : Bool). b || any_of test ts) (sym (ap₂ p q c) ∙ e)
      by (no q) ih =
          let c : count_in k (t ∷ ts) ≡ count_in k ts = ap count_of (find_tail k t ts q) in
          rw (ih (omega arith) (rw c at e)) (or-true (test t))

-- ---- counts after an add
of_row_parts : (r : Row) → ((of_row r).count ≡ 1) × ((of_row r).key ≡ r.key)
unfolding of_row
of_row_parts r = (refl, refl)

count_join : (x : Option Section) (r : Row) → count_of (join x (some (of_row r))) ≡ count_of x + 1
unfolding join combine
count_join none r = (of_row_parts r).0
count_join (some t) r = ap (λ (n : ℕ). t.count + n) (of_row_parts r).0

count-absorb : (k : ℕ) (r : Row) (ts : List Section) → Rising (keys_in ts) → count_in k (absorb (of_row r) ts) ≡ count_in k ts + cond (eqb r.key k) 1 0
count-absorb k r ts h = ap count_of (find-absorb (of_row r) k ts h) ∙ by (ℕ_discrete r.key k)
  where
    by : Dec (r.key ≡ k) → count_of (join (find k ts) (only k (of_row r))) ≡ count_in k ts + cond (eqb r.key k) 1 0
    by (yes e) = rw (eq-eqb r.key k e, only_is k (of_row r) (sym e ∙ sym (of_row_parts r).1)) (count_join (find k ts) r)
    by (no e) = rw (ne_eqb r.key k e, only_not k (of_row r) (λ q. e (sym (q ∙ (of_row_parts r).1))), join_none) (omega arith)

pub count-added : (k : ℕ) (rs : List Row) (ts : List Section) → Rising (keys_in ts) → count_in k (added ts rs) ≡ count_in k ts + occurrences k (map (λ (r : Row). r.key) rs)
unfolding added occurrences
count-added k [] ts h = omega arith
count-added k (r ∷ rs) ts h =
    omega (arith, count-added k rs (absorb (of_row r) ts) (absorb-rising (of_row r) ts h), count-absorb k r ts h)

-- ---- every section has a row
pub added-counts : (rs : List Row) (ts : List Section) → All (λ (s : Section). 1 ≤ s.count) ts → All (λ (s : Section). 1 ≤ s.count) (added ts rs)
unfolding added combine
added-counts [] ts a = a
added-counts (r ∷ rs) ts a =
    added-counts rs (absorb (of_row r) ts)
    (absorb-cases (λ (ts us : List Section). All (λ (s : Section). 1 ≤ s.count) ts → All (λ (s : Section). 1 ≤ s.count) us) (of_row r)
    (λ a. (omega (arith, of_row_parts r), tt)) (λ t ts h a. (omega (arith, of_row_parts r), a)) (λ t ts h a. (omega (arith, a.0), a.1)) (λ t ts h ih a. (a.0, ih a.1))
    ts a)

count_few : (k : ℕ) (ts : List Section) → All (λ (s : Section). s.count ≤ most_rows) ts → count_in k ts ≤ most_rows
count_few k [] a = rw (find_nil k) (omega arith)
count_few k (t ∷ ts) a = by (ℕ_discrete k t.key) (count_few k ts a.1)
  where
    by : Dec (k ≡ t.key) → count_in k ts ≤ most_rows → count_in k (t ∷ ts) ≤ most_rows
    by (yes q) ih = rw (find_head k t ts q) a.0
    by (no q) ih = rw (find_tail k t ts q) ih

-- ---- whether an add makes a row count overflow
abbrev over_most : ℕ → ℕ → Bool
over_most k c = ltb most_rows c

module _ (kind : Kind) (ks vs : List ℕ) (ts : List Section) (a : All (λ (s : Section). 1 ≤ s.count) ts) (r : Rising (keys_in ts)) where
  abbrev sections-after : List Section
  sections-after = added ts (rows_of kind ks vs)

  count-after : (k : ℕ) → count_in k sections-after ≡ count_in k ts + occurrences k (column_keys ks)
  count-after k = count-added k (rows_of kind ks vs) ts r ∙ ap (λ (l : List ℕ). count_in k ts + occurrences k l) (row-keys kind ks vs)

  -- the add makes the count of section k overflow
  overflow_if : (k : ℕ) → count_overflows ks k (count_in k ts) ≡ true → any_of overflows sections-after ≡ true
  overflow_if k e =
      let h = ltb-true most_rows (count_in k ts + occurrences k (column_keys ks)) e in
      let l : most_rows < count_in k sections-after = omega (arith, count-after k) in
      count_any over_most k sections-after (omega arith) (lt-ltb most_rows (count_in k sections-after) l)

  -- and where one of the table after the add does, some number's rows and held count make it
  overflow_only_if : any_of overflows sections-after ≡ true → (k : ℕ) × (count_overflows ks k (count_in k ts) ≡ true)
  overflow_only_if e =
      let w = any_count over_most sections-after (added-counts (rows_of kind ks vs) ts a) (added-rising ts (rows_of kind ks vs) r) e in
      let h = ltb-true most_rows (count_in w.0 sections-after) w.2 in
      (w.0, lt-ltb most_rows (count_in w.0 ts + occurrences w.0 (column_keys ks)) (omega (arith, count-after w.0)))

  -- with few rows, a section of the table
  pub section_overflow : column_row_count ks ≤ most_rows → any_of (λ (s : Section). count_overflows ks s.key s.count) ts ≡ any_of overflows sections-after
  section_overflow few = same_test _ _ (λ e. let w = any_count (count_overflows ks) ts a r e in overflow_if w.0 w.2) only_if
    where
      only_if : any_of overflows sections-after ≡ true → any_of (λ (s : Section). count_overflows ks s.key s.count) ts ≡ true
      only_if e =
          let w = overflow_only_if e in
          let h = ltb-true most_rows (count_in w.0 ts + occurrences w.0 (column_keys ks)) w.1 in
          count_any (count_overflows ks) w.0 ts (omega (arith, occurrences-le w.0 (column_keys ks), length-cells 4 number (column_row_count ks) ks)) w.1

  -- in any case, the section of a row
  pub row_overflow : All (λ (s : Section). s.count ≤ most_rows) ts → any_of (λ (k : ℕ). count_overflows ks k (count_in k ts)) (column_keys ks) ≡ any_of overflows sections-after
  row_overflow few = same_test _ _ (λ e. let w = any_true (λ (k : ℕ). count_overflows ks k (count_in k ts)) (column_keys ks) e in overflow_if w.0 w.1) only_if
    where
      only_if : any_of overflows sections-after ≡ true → any_of (λ (k : ℕ). count_overflows ks k (count_in k ts)) (column_keys ks) ≡ true
      only_if e =
          let w = overflow_only_if e in
          let h = ltb-true most_rows (count_in w.0 ts + occurrences w.0 (column_keys ks)) w.1 in
          any_occurs (λ (k : ℕ). count_overflows ks k (count_in k ts)) w.0 (column_keys ks) (omega (arith, count_few w.0 ts few)) w.1
