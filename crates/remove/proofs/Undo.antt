-- A removal undoes an add of the same rows that raised no held section's top and lowered no held finest power. The idea: at each key the add joins the patch's
-- section to the held one; taken out again it leaves the held one (`without-combined`), or no row where none was held.
use Prim.Native.Nat.{ℕ, ◌+◌, ◌-◌, ◌*◌, ◌≤◌, ◌<◌, max, min}
use mathlib.Core.Path.{◌≡◌, refl, sym, ◌∙◌, ap}
use mathlib.Core.Bool.{Bool, true, false, cond}
use mathlib.Core.List.{List, []}
use mathlib.Core.Option.{Option, none, some}
use native.Mathlib.Omega.{arith}
use native.Mathlib.Nat.{le_refl}
use native.Mathlib.Decide.{dec_le}
use borrow.Author.Tests.{ltb-false, le-ltb, le-leb, lt-leb}
use lib.Dec.{leb}
use lib.IntN.{ℤ, pos, ◌-ℤ◌, nat_abs, +ℤ-neg_ℤ_cancel, +ℤ_invr}
use Rattle.lists.specs.Lists.{any_of}
use Rattle.lists.proofs.Booleans.{never}
use Rattle.lists.proofs.All.{All}
use Rattle.lists.proofs.Any.{any_map}
use Rattle.level.specs.Level.{level_bound, below}
use Rattle.columns.specs.Columns.{Row}
use Rattle.record.specs.Section.{Section, section_at, find}
use Rattle.table.specs.Combine.{level_of, combine, added}
use Rattle.table.proofs.Lookup.{Rising, keys_in, find_ext, added-rising, join}
use Rattle.table.proofs.Combine.{level_of-combine, section_at_cong}
use Rattle.table.proofs.Totals.{level_high, level_middle, level_low}
use Rattle.table.proofs.Proper.{Proper}
use Rattle.remove.specs.Remaining.{without_at, without, without_if, all_without, remaining, has_fewer, has_lower, has_larger, exceeds, too_few_rows, raises_top, total_exceeds, lowers_finest}
use Rattle.remove.proofs.Found.{found_all, found_not, any_none, find-added}
use Rattle.remove.proofs.Remaining.{rows-kept, rows_gone, left_of, find-remaining, remaining-rising, within, proper_within}

-- ---- one section
-- a section is what it holds at its levels
section_is : (t : Section) → Proper t → section_at t.key t.count t.top t.finest (level_of t) ≡ t
section_is t p = λ i. record {
  key = t.key;
  count = t.count;
  top = t.top;
  finest = t.finest;
  high = at_depth 0 t.high (λ l. level_high t) (λ l. absurd (omega arith)) i;
  middle = at_depth 1 t.middle (level_middle t) p.no_middle i;
  low = at_depth 2 t.low (level_low t) p.no_low i;
}
  where
    at_depth : (d : ℕ) (x : ℤ) → (d ≤ t.top → level_of t (t.top - d) ≡ x) → (t.top < d → x ≡ pos 0) → below (level_of t) t.top d ≡ x
    at_depth d x f g = elim (dec_le d t.top) [
      | yes l ↦ rw (le-leb d t.top l) (f l)
      | no l ↦ rw (lt-leb d t.top (omega arith)) (sym (g (omega arith)))
    ]

without-combined : (t p : Section) → Proper t → p.top ≤ t.top → t.finest ≤ p.finest → without (combine t p) p ≡ t
unfolding without combine
without-combined t p h l f =
    let n : t.count + p.count - p.count ≡ t.count = omega arith in
    let m : max t.top p.top ≡ t.top = omega arith in
    let z : min t.finest p.finest ≡ t.finest = omega arith in
    section_at_cong t.key (t.count + p.count - p.count) (max t.top p.top) (min t.finest p.finest) (without_at (combine t p) p) (level_of t)
    (λ j q. ap (λ (z : ℤ). z -ℤ level_of p j) (level_of-combine t p j q) ∙ +ℤ-neg_ℤ_cancel (level_of t j) (level_of p j))
    ∙ rw (n, m, z) (section_is t h)

-- a section without itself has no row, and 22 does not hold of it
without_self : (p : Section) → (without p p).count ≡ 0
unfolding without
without_self p = omega arith

self_within : (p : Section) → exceeds (without p p) ≡ false
unfolding without
self_within p = within (without p p) (small 0) (small 1) (small 2)
  where
    by : (b : Bool) (z : ℤ) (n : ℕ) → nat_abs (cond b (z -ℤ z) (pos 0)) ≤ n
    by true z n = rw (+ℤ_invr z) (omega arith)
    by false z n = omega arith

    small : (d : ℕ) → nat_abs (below (without_at p p) p.top d) ≤ (p.count - p.count) * level_bound
    small d = by (leb d p.top) (level_of p (p.top - d)) ((p.count - p.count) * level_bound)

-- ---- a table
module _ (ts : List Section) (rs : List Row) (a : Rising (keys_in ts)) where
  abbrev ps : List Section
  ps = added [] rs

  -- neither 20 nor 21 holds of the patch's section beside the one that it was joined to
  enough : (p : Section) (x : Option Section) → has_fewer (join x (some p)) p ≡ false
  unfolding has_fewer join combine
  enough p none = le-ltb p.count p.count (le_refl p.count)
  enough p (some t) = le-ltb (t.count + p.count) p.count (omega arith)

  high_enough : (p : Section) (x : Option Section) → has_lower (join x (some p)) p ≡ false
  unfolding has_lower join combine
  high_enough p none = le-ltb p.top p.top (le_refl p.top)
  high_enough p (some t) = le-ltb (max t.top p.top) p.top (omega arith)

  -- what no section of the patch has beside one that it was joined to, none has beside the one held after the add
  none_joined : (q : Option Section → Section → Bool) → ((p : Section) (x : Option Section) → q (join x (some p)) p ≡ false) → any_of (λ (p : Section). q (find p.key (added ts rs)) p) ps ≡ false
  none_joined q h =
      any_none (λ (p : Section). q (find p.key (added ts rs)) p) ps (added-rising [] rs tt)
      (λ p e. ap (λ (o : Option Section). q o p) (find-added rs ts p.key a ∙ ap (join (find p.key ts)) e) ∙ h p (find p.key ts))

  pub none-20 : too_few_rows (added ts rs) ps ≡ false
  none-20 = none_joined has_fewer enough

  pub none-21 : raises_top (added ts rs) ps ≡ false
  none-21 = none_joined has_lower high_enough

  module _ (proper : All Proper ts) (no-higher : raises_top ts ps ≡ false) (no-finer : lowers_finest ts ps ≡ false) where
    is_proper : (k : ℕ) (t : Section) → find k ts ≡ some t → Proper t
    is_proper k t e = found_all Proper k ts proper e

    -- no held top was raised, and no held finest power lowered
    kept_top : (k : ℕ) (t p : Section) → find k ts ≡ some t → find k ps ≡ some p → p.top ≤ t.top
    unfolding has_lower
    kept_top k t p e f = ltb-false t.top p.top (ap (λ (o : Option Section). has_lower o p) (sym e) ∙ found_not has_lower k ts ps no-higher f)

    kept-finest : (k : ℕ) (t p : Section) → find k ts ≡ some t → find k ps ≡ some p → t.finest ≤ p.finest
    unfolding has_larger
    kept-finest k t p e f = ltb-false p.finest t.finest (ap (λ (o : Option Section). has_larger o p) (sym e) ∙ found_not has_larger k ts ps no-finer f)

    held_back : (k : ℕ) (t p : Section) → find k ts ≡ some t → find k ps ≡ some p → without (combine t p) p ≡ t
    held_back k t p e f = without-combined t p (is_proper k t e) (kept_top k t p e f) (kept-finest k t p e f)

    left_joined : (k : ℕ) (x y : Option Section) → find k ts ≡ x → find k ps ≡ y → left_of (join x y) y ≡ x
    unfolding left_of join without_if
    left_joined k none none e f = refl
    left_joined k none (some p) e f = rows_gone (without p p) (without_self p)
    left_joined k (some t) none e f = rows-kept t (is_proper k t e).count
    left_joined k (some t) (some p) e f = rw (held_back k t p e f) (rows-kept t (is_proper k t e).count)

    -- the former sections are back
    pub former : remaining (added ts rs) ps ≡ ts
    former =
        let r = added-rising ts rs a in
        find_ext (remaining (added ts rs) ps) ts (remaining-rising (added ts rs) ps r) a
        (λ k. find-remaining (added ts rs) ps k r ∙ ap (λ (o : Option Section). left_of o (find k ps)) (find-added rs ts k a) ∙ left_joined k (find k ts) (find k ps) refl refl)

    left-within : (k : ℕ) (x y : Option Section) → find k ts ≡ x → find k ps ≡ y → (u : Section) → join x y ≡ some u → exceeds (without_if u y) ≡ false
    unfolding join without_if
    left-within k none none e f u q = never cc
    left-within k none (some p) e f u q = let r : u ≡ p = cc in rw r (self_within p)
    left-within k (some t) none e f u q = let r : u ≡ t = cc in rw r (proper_within t (is_proper k t e))
    left-within k (some t) (some p) e f u q = let r : u ≡ combine t p = cc in rw (r, held_back k t p e f) (proper_within t (is_proper k t e))

    pub none-22 : total_exceeds (added ts rs) ps ≡ false
    unfolding all_without
    none-22 =
        any_map exceeds (λ (t : Section). without_if t (find t.key ps)) (added ts rs)
        ∙ any_none (λ (t : Section). exceeds (without_if t (find t.key ps))) (added ts rs) (added-rising ts rs a)
        (λ u e. left-within u.key (find u.key ts) (find u.key ps) refl refl u (sym (find-added rs ts u.key a) ∙ e))
