-- The distinct section numbers of rows have each number of a row once, and no other. The idea: they rise, so that a number is put in only where it is not there.
use Prim.Native.Nat.{ℕ, ◌+◌, ◌≤◌}
use mathlib.Core.Path.{◌≡◌, refl, sym, ◌∙◌}
use mathlib.Core.Bool.{cond, ◌||◌}
use mathlib.Core.List.{List, [], ◌∷◌}
use native.Mathlib.Omega.{arith}
use native.Mathlib.Decide.{ℕ_discrete}
use borrow.Author.Tests.{eq-eqb, ne_eqb, lt-ltb, le-ltb}
use lib.Dec.{eqb}
use Rattle.lists.specs.Lists.{any_of, occurrences}
use Rattle.columns.specs.Columns.{Row}
use Rattle.table.proofs.Lookup.{Above, Rising, Tri, less, same, more, tri, above_rising}
use Rattle.history.specs.Rows.{insert_key, section_numbers}
use Rattle.history.proofs.Canonical.{numbers-rising}

-- ---- one number more in front
occurs_here : (k l : ℕ) (ls : List ℕ) → l ≡ k → occurrences k (l ∷ ls) ≡ 1 + occurrences k ls
unfolding occurrences
occurs_here k l ls e = rw (eq-eqb l k e)

occurs-later : (k l : ℕ) (ls : List ℕ) → (l ≡ k → ⊥) → occurrences k (l ∷ ls) ≡ occurrences k ls
unfolding occurrences
occurs-later k l ls e = rw (ne_eqb l k e) (omega arith)

-- ---- rising numbers
occurs_above : (k l : ℕ) (ls : List ℕ) → Above l ls → k ≤ l → occurrences k ls ≡ 0
unfolding occurrences
occurs_above k l [] a h = refl
occurs_above k l (m ∷ ms) a h = let b = a.0 in rw (ne_eqb m k (λ e. omega arith)) (omega (arith, occurs_above k m ms a.1 (omega arith)))

module _ (k a : ℕ) where
  -- k is put in by itself, another number beside it
  abbrev With : List ℕ → List ℕ → Type 0
  With ls us = (k ≡ a → occurrences k us ≡ 1) × ((k ≡ a → ⊥) → occurrences k us ≡ occurrences k ls)

  put_in : (ls : List ℕ) → Rising ls → With ls (insert_key a ls)
  unfolding insert_key occurrences
  put_in [] r = (λ e. occurs_here k a [] (sym e), λ e. occurs-later k a [] (λ q. e (sym q)))
  put_in (l ∷ ls) r = go (put_in ls (above_rising l ls r)) (tri a l)
    where
      go : With ls (insert_key a ls) → Tri a l → With (l ∷ ls) (insert_key a (l ∷ ls))
      go ih (less h) = rw (lt-ltb a l h) (
        λ e. omega (arith, occurs_here k a (l ∷ ls) (sym e), occurs_above k a (l ∷ ls) (h, r) (omega arith)),
        λ e. occurs-later k a (l ∷ ls) (λ q. e (sym q)),
      )
      go ih (same h) = rw (le-ltb a l (omega arith), eq-eqb a l h) (
        λ e. omega (arith, occurs_here k l ls (sym (e ∙ h)), occurs_above k l ls r (omega arith)),
        λ e. refl,
      )
      go ih (more h) = rw (le-ltb a l (omega arith), ne_eqb a l (λ q. omega arith)) (
        λ e. occurs-later k l (insert_key a ls) (λ q. omega arith) ∙ ih.0 e,
        λ e. omega (arith, ih.1 e),
      )

-- ---- the section numbers of rows
pub once : (k : ℕ) (rows : List Row) → occurrences k (section_numbers rows) ≡ cond (any_of (λ (r : Row). eqb k r.key) rows) 1 0
unfolding occurrences section_numbers any_of
once k [] = refl
once k (r ∷ rs) = go (once k rs) (put_in k r.key (section_numbers rs) (numbers-rising rs)) (ℕ_discrete k r.key)
  where
    go : occurrences k (section_numbers rs) ≡ cond (any_of (λ (r : Row). eqb k r.key) rs) 1 0 → With k r.key (section_numbers rs) (insert_key r.key (section_numbers rs))
        → Dec (k ≡ r.key) → occurrences k (insert_key r.key (section_numbers rs)) ≡ cond (eqb k r.key || any_of (λ (r : Row). eqb k r.key) rs) 1 0
    go ih w (yes e) = rw (eq-eqb k r.key e) (w.0 e)
    go ih w (no e) = rw (ne_eqb k r.key e) (w.1 e ∙ ih)
