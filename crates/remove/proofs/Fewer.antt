-- Patches that the table cannot hold: one with more sections than the table, and one with more rows of a section than a count can say. The idea of the first: rising keys
-- that all stand among other rising keys are no more than these, by one step through both.
use Prim.Native.Nat.{ℕ, suc, ◌≤◌, ◌<◌, zero-le}
use mathlib.Core.Path.{◌≡◌, refl, sym, ap, ap₂, ◌∙◌, subst}
use mathlib.Core.Bool.{Bool, true, false, ◌||◌}
use mathlib.Core.List.{List, [], ◌∷◌}
use mathlib.Core.Option.{Option, none, some}
use native.Mathlib.Omega.{arith}
use borrow.Author.Tests.{lt-ltb, ltb-true}
use lib.Dec.{T}
use lib.ListN.{length}
use Rattle.codec.proofs.Laws.{AreBytes}
use Rattle.lists.specs.Lists.{any_of}
use Rattle.lists.proofs.Booleans.{never, both_false}
use Rattle.lists.proofs.All.{All, all_map}
use Rattle.record.specs.Section.{Section, sections, find}
use Rattle.record.specs.Sound.{sound}
use Rattle.table.specs.Calls.{most_rows, overflows}
use Rattle.table.proofs.Bytes.{Storable}
use Rattle.table.proofs.State.{sound_fits}
use Rattle.table.proofs.Lookup.{Above, Rising, keys_in, Tri, less, same, more, tri, above_rising, find_nil, find_tail, find_above}
use Rattle.remove.specs.Remaining.{has_fewer, too_few_rows}
use Rattle.remove.proofs.Found.{found_all}

-- ---- more sections
absent : (p : Section) {o : Option Section} → o ≡ none → has_fewer o p ≡ true
unfolding has_fewer
absent p e = rw e

-- keys above the first one are looked for after it
past : (t : Section) (ts ps : List Section) → Above t.key (keys_in ps) → too_few_rows (t ∷ ts) ps ≡ too_few_rows ts ps
unfolding any_of
past t ts [] a = refl
past t ts (p ∷ ps) a =
    ap₂ ◌||◌ (ap (λ (o : Option Section). has_fewer o p) (find_tail p.key t ts (λ e. omega (arith, a.0)))) (past t ts ps (above (keys_in ps) a.1 a.0))
  where
    above : (ls : List ℕ) → Above p.key ls → t.key < p.key → Above t.key ls
    above [] b l = tt
    above (x ∷ ls) b l = (omega (arith, b.0), b.1)

fits : (ts ps : List Section) → Rising (keys_in ts) → Rising (keys_in ps) → too_few_rows ts ps ≡ false → length ps ≤ length ts
unfolding any_of
fits ts [] a b e = zero-le
fits [] (p ∷ ps) a b e = let z = sym (absent p (find_nil p.key)) ∙ (both_false (has_fewer (find p.key []) p) (too_few_rows [] ps) e).0 in never cc
fits (t ∷ ts) (p ∷ ps) a b e =
    go (tri p.key t.key) (fits ts ps (above_rising t.key (keys_in ts) a) (above_rising p.key (keys_in ps) b)) (fits ts (p ∷ ps) (above_rising t.key (keys_in ts) a) b)
  where
    w : (has_fewer (find p.key (t ∷ ts)) p ≡ false) × (too_few_rows (t ∷ ts) ps ≡ false)
    w = both_false (has_fewer (find p.key (t ∷ ts)) p) (too_few_rows (t ∷ ts) ps) e

    go : Tri p.key t.key → (too_few_rows ts ps ≡ false → length ps ≤ length ts) → (too_few_rows ts (p ∷ ps) ≡ false → suc (length ps) ≤ length ts) → suc (length ps) ≤ suc (length ts)
    go (less l) both rest =
        let z = sym (absent p (find_tail p.key t ts (λ q. omega arith) ∙ find_above t.key p.key ts a (omega arith))) ∙ w.0 in never cc
    go (same q) both rest = omega (arith, both (sym (past t ts ps (subst (λ (k : ℕ). Above k (keys_in ps)) q b)) ∙ w.1))
    go (more l) both rest = omega (arith, rest (sym (past t ts (p ∷ ps) (l, b)) ∙ e))

pub more_sections : (ts ps : List Section) → Rising (keys_in ts) → Rising (keys_in ps) → length ts < length ps → too_few_rows ts ps ≡ true
more_sections ts ps a b h = go (too_few_rows ts ps) refl
  where
    go : (x : Bool) → too_few_rows ts ps ≡ x → x ≡ true
    go true e = refl
    go false e = absurd (omega (arith, fits ts ps a b e))

-- ---- more rows of a section
more_than : (p : Section) (o : Option Section) → ((t : Section) → o ≡ some t → t.count ≤ most_rows) → overflows p ≡ true → has_fewer o p ≡ true
unfolding has_fewer
more_than p none few e = refl
more_than p (some t) few e = lt-ltb t.count p.count (omega (arith, few t refl, ltb-true most_rows p.count e))

pub more_rows : (ts ps : List Section) → All (λ (t : Section). t.count ≤ most_rows) ts → any_of overflows ps ≡ true → too_few_rows ts ps ≡ true
unfolding any_of
more_rows ts [] few e = e
more_rows ts (p ∷ ps) few e = go (overflows p) refl e (more_rows ts ps few)
  where
    either_true : (b : Bool) {c : Bool} → c ≡ true → (b || c) ≡ true
    either_true true r = refl
    either_true false r = r

    go : (x : Bool) → overflows p ≡ x → (x || any_of overflows ps) ≡ true → (any_of overflows ps ≡ true → too_few_rows ts ps ≡ true) → too_few_rows ts (p ∷ ps) ≡ true
    go true q h rest = rw (more_than p (find p.key ts) (λ t r. found_all (λ (t : Section). t.count ≤ most_rows) p.key ts few r) q)
    go false q h rest = either_true (has_fewer (find p.key ts) p) (rest h)

-- a record's count fits its bytes
pub counts_few : (s : List ℕ) (g : ℕ) → T (sound s g) → AreBytes s → All (λ (t : Section). t.count ≤ most_rows) (sections s g)
counts_few s g ok b = all_map Storable (λ (t : Section). t.count ≤ most_rows) (λ t f. f.few) (sections s g) (sound_fits s g ok b)
