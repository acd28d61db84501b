-- The sections that remain. The idea: a removal goes section by section, so at each key `find` sees what is left of the held section there (`find-remaining`);
-- their keys rise as the held ones do, and they can be stored where 22 does not hold.
use Prim.Native.Nat.{ℕ, ◌*◌, ◌≤◌, ◌<◌}
use mathlib.Core.Path.{◌≡◌, refl, sym, ◌∙◌, ap, ap₂}
use mathlib.Core.Bool.{Bool, true, false, cond, ◌||◌}
use mathlib.Core.List.{List, [], ◌∷◌}
use mathlib.Core.Option.{Option, none, some}
use native.Mathlib.Omega.{arith}
use native.Mathlib.Decide.{ℕ_discrete}
use borrow.Author.Tests.{eq-eqb, ne_eqb, eqb-false, ltb-false, le-ltb, lt-leb}
use lib.Dec.{eqb, ltb}
use lib.IntN.{nat_abs}
use lib.ListN.{length}
use Rattle.lists.specs.Lists.{any_of}
use Rattle.lists.proofs.Booleans.{both_false}
use Rattle.lists.proofs.All.{All}
use Rattle.level.specs.Level.{level_bound}
use Rattle.record.specs.Section.{Section, find}
use Rattle.table.proofs.Lookup.{Above, Rising, keys_in, above_rising, find_nil, find_head, find_tail, find_above}
use Rattle.table.proofs.Proper.{Proper}
use Rattle.table.proofs.Bytes.{Storable}
use Rattle.remove.specs.Remaining.{without, without_if, all_without, with_rows, remaining, exceeds, total_exceeds}

-- ---- keys
without-key : (t : Section) (o : Option Section) → (without_if t o).key ≡ t.key
unfolding without_if without
without-key t none = refl
without-key t (some p) = refl

all_without-keys : (ts ps : List Section) → keys_in (all_without ts ps) ≡ keys_in ts
unfolding all_without
all_without-keys [] ps = refl
all_without-keys (t ∷ ts) ps = ap₂ ◌∷◌ (without-key t (find t.key ps)) (all_without-keys ts ps)

above_later : (k l : ℕ) (ls : List ℕ) → k < l → Above l ls → Above k ls
above_later k l [] h a = tt
above_later k l (m ∷ ls) h a = (omega (arith, a.0), a.1)

with_rows_above : (k : ℕ) (ts : List Section) → Above k (keys_in ts) → Above k (keys_in (with_rows ts))
unfolding with_rows
with_rows_above k [] a = tt
with_rows_above k (t ∷ ts) a = go (eqb t.count 0) (with_rows_above k ts (above_later k t.key (keys_in ts) a.0 a.1)) (with_rows_above t.key ts a.1)
  where
    go : (b : Bool) → Above k (keys_in (with_rows ts)) → Above t.key (keys_in (with_rows ts)) → Above k (keys_in (cond b (with_rows ts) (t ∷ with_rows ts)))
    go true x y = x
    go false x y = (a.0, y)

with_rows-rising : (ts : List Section) → Rising (keys_in ts) → Rising (keys_in (with_rows ts))
unfolding with_rows
with_rows-rising [] a = tt
with_rows-rising (t ∷ ts) a = go (eqb t.count 0) (with_rows_above t.key ts a)
  where
    go : (b : Bool) → Above t.key (keys_in (with_rows ts)) → Rising (keys_in (cond b (with_rows ts) (t ∷ with_rows ts)))
    go true x = above_rising t.key (keys_in (with_rows ts)) x
    go false x = x

pub remaining-rising : (ts ps : List Section) → Rising (keys_in ts) → Rising (keys_in (remaining ts ps))
unfolding remaining
remaining-rising ts ps a = with_rows-rising (all_without ts ps) (rw (all_without-keys ts ps) a)

-- ---- what is found
-- a section, if it has a row
unfoldable pub if_rows : Section → Option Section
if_rows t = cond (eqb t.count 0) none (some t)

pub rows-kept : (t : Section) → 1 ≤ t.count → if_rows t ≡ some t
unfolding if_rows
rows-kept t h = rw (ne_eqb t.count 0 (λ e. omega arith))

pub rows_gone : (t : Section) → t.count ≡ 0 → if_rows t ≡ none
unfolding if_rows
rows_gone t e = rw (eq-eqb t.count 0 e)

-- what is left of a held section, or of none, where the patch has this one for it, or none
unfoldable pub left_of : Option Section → Option Section → Option Section
left_of none y = none
left_of (some t) y = if_rows (without_if t y)

left-none : (y : Option Section) → left_of none y ≡ none
unfolding left_of
left-none y = refl

left-some : (t : Section) (y : Option Section) → left_of (some t) y ≡ if_rows (without_if t y)
unfolding left_of
left-some t y = refl

module _ (k : ℕ) (t : Section) (ts : List Section) where
  find_only : find k (with_rows ts) ≡ none → k ≡ t.key → find k (with_rows (t ∷ ts)) ≡ if_rows t
  unfolding with_rows if_rows
  find_only n e = go (eqb t.count 0)
    where
      go : (b : Bool) → find k (cond b (with_rows ts) (t ∷ with_rows ts)) ≡ cond b none (some t)
      go true = n
      go false = find_head k t (with_rows ts) e

  find_past : (k ≡ t.key → ⊥) → find k (with_rows (t ∷ ts)) ≡ find k (with_rows ts)
  unfolding with_rows
  find_past e = go (eqb t.count 0)
    where
      go : (b : Bool) → find k (cond b (with_rows ts) (t ∷ with_rows ts)) ≡ find k (with_rows ts)
      go true = refl
      go false = find_tail k t (with_rows ts) e

pub find-remaining : (ts ps : List Section) (k : ℕ) → Rising (keys_in ts) → find k (remaining ts ps) ≡ left_of (find k ts) (find k ps)
unfolding remaining all_without with_rows
find-remaining [] ps k a = find_nil k ∙ sym (ap (λ (o : Option Section). left_of o (find k ps)) (find_nil k) ∙ left-none (find k ps))
find-remaining (t ∷ ts) ps k a = go (find-remaining ts ps k (above_rising t.key (keys_in ts) a)) (ℕ_discrete k t.key)
  where
    go : find k (remaining ts ps) ≡ left_of (find k ts) (find k ps) → Dec (k ≡ t.key)
        → find k (with_rows (without_if t (find t.key ps) ∷ all_without ts ps)) ≡ left_of (find k (t ∷ ts)) (find k ps)
    go ih (yes e) =
        find_only k (without_if t (find t.key ps)) (all_without ts ps)
        (ih ∙ ap (λ (o : Option Section). left_of o (find k ps)) (find_above t.key k ts a (omega arith)) ∙ left-none (find k ps))
        (e ∙ sym (without-key t (find t.key ps)))
        ∙ sym (ap (λ (o : Option Section). left_of o (find k ps)) (find_head k t ts e) ∙ left-some t (find k ps) ∙ ap (λ (l : ℕ). if_rows (without_if t (find l ps))) e)
    go ih (no e) =
        find_past k (without_if t (find t.key ps)) (all_without ts ps) (λ q. e (q ∙ without-key t (find t.key ps)))
        ∙ ih ∙ ap (λ (o : Option Section). left_of o (find k ps)) (sym (find_tail k t ts e))

-- ---- size
pub remaining-length : (ts ps : List Section) → length (remaining ts ps) ≤ length ts
unfolding remaining all_without with_rows
remaining-length [] ps = omega arith
remaining-length (t ∷ ts) ps = go (eqb (without_if t (find t.key ps)).count 0) (remaining-length ts ps)
  where
    go : (b : Bool) → length (remaining ts ps) ≤ length ts → length (cond b (remaining ts ps) (without_if t (find t.key ps) ∷ remaining ts ps)) ≤ length (t ∷ ts)
    go true h = omega arith
    go false h = omega arith

-- ---- 22, and sections that can be stored
module _ (t : Section) where
  abbrev bound : ℕ
  bound = t.count * level_bound

  not_exceeding : exceeds t ≡ false → (nat_abs t.high ≤ bound) × (nat_abs t.middle ≤ bound) × (nat_abs t.low ≤ bound)
  unfolding exceeds
  not_exceeding e =
      let w = both_false (ltb bound (nat_abs t.high)) (ltb bound (nat_abs t.middle) || ltb bound (nat_abs t.low)) e in
      let v = both_false (ltb bound (nat_abs t.middle)) (ltb bound (nat_abs t.low)) w.1 in
      (ltb-false bound (nat_abs t.high) w.0, ltb-false bound (nat_abs t.middle) v.0, ltb-false bound (nat_abs t.low) v.1)

  pub within : nat_abs t.high ≤ bound → nat_abs t.middle ≤ bound → nat_abs t.low ≤ bound → exceeds t ≡ false
  unfolding exceeds
  within h m l = rw (le-ltb bound (nat_abs t.high) h, le-ltb bound (nat_abs t.middle) m, le-ltb bound (nat_abs t.low) l)

  pub proper_within : Proper t → exceeds t ≡ false
  proper_within p = within p.high p.middle p.low

storable_left : (t : Section) (o : Option Section) → Storable t → exceeds (without_if t o) ≡ false → 1 ≤ (without_if t o).count → Storable (without_if t o)
unfolding without_if without
storable_left t none f e n = f
storable_left t (some p) f e n =
    let w = not_exceeding (without t p) e in
    let few = f.few in
    record {
      proper = record {
        key = f.proper.key;
        count = n;
        top = f.proper.top;
        finest = f.proper.finest;
        high = w.0;
        middle = w.1;
        low = w.2;
        no_middle = λ q. rw (lt-leb 1 t.top q);
        no_low = λ q. rw (lt-leb 2 t.top q);
      };
      few = omega arith;
    }

pub remaining_storable : (ts ps : List Section) → All Storable ts → total_exceeds ts ps ≡ false → All Storable (remaining ts ps)
unfolding remaining all_without with_rows any_of
remaining_storable [] ps a e = tt
remaining_storable (t ∷ ts) ps a e =
    let u = without_if t (find t.key ps) in
    let w = both_false (exceeds u) (any_of exceeds (all_without ts ps)) e in
    go (eqb u.count 0) refl (remaining_storable ts ps a.1 w.1) (storable_left t (find t.key ps) a.0 w.0)
  where
    go : (b : Bool) → eqb (without_if t (find t.key ps)).count 0 ≡ b → All Storable (remaining ts ps)
        → (1 ≤ (without_if t (find t.key ps)).count → Storable (without_if t (find t.key ps)))
        → All Storable (cond b (remaining ts ps) (without_if t (find t.key ps) ∷ remaining ts ps))
    go true q x f = x
    go false q x f = (f (omega (arith, eqb-false (without_if t (find t.key ps)).count 0 q)), x)
