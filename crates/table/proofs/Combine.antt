-- Sections of one key form a commutative semigroup under `combine`, whatever they hold. The idea: a section is made from what is held from two levels below its
-- top upwards (`section_at_cong`), and there `combine` is a sum of integers (`level_of-combine`).
use Prim.Native.Nat.{ℕ, ◌+◌, ◌-◌, ◌≤◌, ◌<◌, max, min}
use mathlib.Core.Path.{◌≡◌, sym, ◌∙◌, ap, ap₂}
use native.Mathlib.Omega.{arith}
use native.Mathlib.Decide.{dec_le}
use borrow.Author.Tests.{eq-eqb, ne_eqb, le-leb, lt-leb}
use lib.IntN.{ℤ, pos, ◌+ℤ◌, +ℤ_comm, +ℤ_assoc}
use Rattle.level.specs.Level.{below}
use Rattle.record.specs.Section.{Section, section_at}
use Rattle.table.specs.Combine.{level_of, combine}

-- where a level j stands under a top t that is at most two above it
data Stands (j t : ℕ) : Type 0 where
  is_high : t ≡ j → Stands j t
  is_middle : t ≡ j + 1 → Stands j t
  is_low : t ≡ j + 2 → Stands j t
  above_top : t < j → Stands j t

stands : (j t : ℕ) → t ≤ j + 2 → Stands j t
stands j t h = go (dec_le t j) (dec_le (t + 1) j) (dec_le t (j + 1))
  where
    go : Dec (t ≤ j) → Dec (t + 1 ≤ j) → Dec (t ≤ j + 1) → Stands j t
    go (yes a) (yes b) c = above_top (omega arith)
    go (yes a) (no b) c = is_high (omega arith)
    go (no a) b (yes c) = is_middle (omega arith)
    go (no a) b (no c) = is_low (omega arith)

-- a section holds nothing above its top
pub level_of_above : (s : Section) (j : ℕ) → s.top < j → level_of s j ≡ pos 0
unfolding level_of
level_of_above s j h =
    rw (ne_eqb j s.top (λ e. omega arith), ne_eqb (j + 1) s.top (λ e. omega arith), ne_eqb (j + 2) s.top (λ e. omega arith))

below_is : (f : ℕ → ℤ) (t i j : ℕ) → t ≡ j + i → below f t i ≡ f j
below_is f t i j e =
    let m : t - i ≡ j = omega arith in
    rw (le-leb i t (omega arith), m)

-- a section made from a family of totals holds it at its three levels and above them, where the family has 0 above the top
pub level_of_at : (k n t z : ℕ) (f : ℕ → ℤ) (j : ℕ) → t ≤ j + 2 → (t < j → f j ≡ pos 0) → level_of (section_at k n t z f) j ≡ f j
unfolding level_of
level_of_at k n t z f j l none = go (stands j t l)
  where
    go : Stands j t → level_of (section_at k n t z f) j ≡ f j
    go (is_high e) = rw (eq-eqb j t (sym e)) (below_is f t 0 j (omega arith))
    go (is_middle e) = rw (ne_eqb j t (λ h. omega arith), eq-eqb (j + 1) t (sym e)) (below_is f t 1 j e)
    go (is_low e) =
        rw (ne_eqb j t (λ h. omega arith), ne_eqb (j + 1) t (λ h. omega arith), eq-eqb (j + 2) t (sym e)) (below_is f t 2 j e)
    go (above_top h) = level_of_above (section_at k n t z f) j h ∙ sym (none h)

-- families that agree from level t - 2 upwards make one section
below_cong : (f g : ℕ → ℤ) (t i : ℕ) → i ≤ 2 → ((j : ℕ) → t ≤ j + 2 → f j ≡ g j) → below f t i ≡ below g t i
below_cong f g t i h e = go (dec_le i t)
  where
    go : Dec (i ≤ t) → below f t i ≡ below g t i
    go (yes l) = rw (le-leb i t l) (e (t - i) (omega arith))
    go (no l) = rw (lt-leb i t (omega arith))

pub section_at_cong : (k n t z : ℕ) (f g : ℕ → ℤ) → ((j : ℕ) → t ≤ j + 2 → f j ≡ g j) → section_at k n t z f ≡ section_at k n t z g
section_at_cong k n t z f g e = λ i. record {
  key = k;
  count = n;
  top = t;
  finest = z;
  high = below_cong f g t 0 (omega arith) e i;
  middle = below_cong f g t 1 (omega arith) e i;
  low = below_cong f g t 2 (omega arith) e i;
}

-- sections made from two families combine to the one made from their sum
pub section_at-combine : (k n m t u z y : ℕ) (f g : ℕ → ℤ) → ((j : ℕ) → t < j → f j ≡ pos 0) → ((j : ℕ) → u < j → g j ≡ pos 0)
    → combine (section_at k n t z f) (section_at k m u y g) ≡ section_at k (n + m) (max t u) (min z y) (λ (j : ℕ). f j +ℤ g j)
unfolding combine
section_at-combine k n m t u z y f g p q =
    section_at_cong k (n + m) (max t u) (min z y) (λ j. level_of (section_at k n t z f) j +ℤ level_of (section_at k m u y g) j) (λ j. f j +ℤ g j)
    (λ j h. ap₂ ◌+ℤ◌ (level_of_at k n t z f j (omega arith) (p j)) (level_of_at k m u y g j (omega arith) (q j)))

-- what two sections hold together, at their three levels and above
pub level_of-combine : (s t : Section) (j : ℕ) → max s.top t.top ≤ j + 2 → level_of (combine s t) j ≡ level_of s j +ℤ level_of t j
unfolding combine
level_of-combine s t j l =
    level_of_at s.key (s.count + t.count) (max s.top t.top) (min s.finest t.finest) (λ i. level_of s i +ℤ level_of t i) j l
    (λ h. ap₂ ◌+ℤ◌ (level_of_above s j (omega arith)) (level_of_above t j (omega arith)))

-- the order of two does not matter
pub combine_comm : (s t : Section) → s.key ≡ t.key → combine s t ≡ combine t s
unfolding combine
combine_comm s t e =
    let n : s.count + t.count ≡ t.count + s.count = omega arith in
    let m : max s.top t.top ≡ max t.top s.top = omega arith in
    let z : min s.finest t.finest ≡ min t.finest s.finest = omega arith in
    section_at_cong s.key (s.count + t.count) (max s.top t.top) (min s.finest t.finest) (λ j. level_of s j +ℤ level_of t j) (λ j. level_of t j +ℤ level_of s j)
    (λ j h. +ℤ_comm (level_of s j) (level_of t j))
    ∙ rw (e, n, m, z)

-- nor does the grouping of three
pub combine_assoc : (s t u : Section) → combine (combine s t) u ≡ combine s (combine t u)
unfolding combine
combine_assoc s t u =
    let n : s.count + t.count + u.count ≡ s.count + (t.count + u.count) = omega arith in
    let m : max (max s.top t.top) u.top ≡ max s.top (max t.top u.top) = omega arith in
    let z : min (min s.finest t.finest) u.finest ≡ min s.finest (min t.finest u.finest) = omega arith in
    section_at_cong s.key (s.count + t.count + u.count) (max (max s.top t.top) u.top) (min (min s.finest t.finest) u.finest)
    (λ j. level_of (combine s t) j +ℤ level_of u j) (λ j. level_of s j +ℤ level_of (combine t u) j)
    (λ j h.
    ap (λ (z : ℤ). z +ℤ level_of u j) (level_of-combine s t j (omega arith))
    ∙ +ℤ_assoc (level_of s j) (level_of t j) (level_of u j)
    ∙ ap (λ (z : ℤ). level_of s j +ℤ z) (sym (level_of-combine t u j (omega arith))))
    ∙ rw (n, m, z)
