-- A table with rising keys is given by what `find` reads in it; adding and merging, as `find` sees them.
use Prim.Native.Nat.{ℕ, ◌≤◌, ◌<◌}
use mathlib.Core.Path.{◌≡◌, refl, sym, ◌∙◌, ap, ap₂}
use mathlib.Core.Bool.{cond}
use mathlib.Core.List.{List, [], ◌∷◌, map}
use mathlib.Core.Option.{Option, none, some}
use native.Mathlib.Omega.{arith}
use native.Mathlib.Nat.{le_refl, le_trans}
use native.Mathlib.Decide.{ℕ_discrete, dec_le}
use lib.Dec.{eqb}
use lib.ListN.{length}
use borrow.Author.Tests.{eq-eqb, ne_eqb, lt-ltb, le-ltb}
use Rattle.record.specs.Section.{Section, find}
use Rattle.columns.specs.Columns.{Row}
use Rattle.table.specs.Combine.{of_row, combine, absorb, merged, added}
use Rattle.table.proofs.Combine.{combine_assoc}

-- the numbers rise, the first one from above k
abbrev pub Above : ℕ → List ℕ → Type 0
Above k [] = Unit {0}
Above k (l ∷ ls) = (k < l) × Above l ls

abbrev pub Rising : List ℕ → Type 0
Rising [] = Unit {0}
Rising (l ∷ ls) = Above l ls

-- the keys of sections
abbrev pub keys_in : List Section → List ℕ
keys_in ts = map (λ (t : Section). t.key) ts

pub data Tri (a b : ℕ) : Type 0 where
  less : a < b → Tri a b
  same : a ≡ b → Tri a b
  more : b < a → Tri a b

pub tri : (a b : ℕ) → Tri a b
tri a b = go (dec_le a b) (dec_le b a)
  where
    go : Dec (a ≤ b) → Dec (b ≤ a) → Tri a b
    go (yes h) (yes k) = same (omega arith)
    go (yes h) (no k) = less (omega arith)
    go (no h) k = more (omega arith)

pub above_rising : (k : ℕ) (ls : List ℕ) → Above k ls → Rising ls
above_rising k [] a = tt
above_rising k (l ∷ ls) a = a.1

-- ---- what is found
pub find_nil : (k : ℕ) → find k [] ≡ none
unfolding find
find_nil k = refl

pub find_head : (k : ℕ) (t : Section) (ts : List Section) → k ≡ t.key → find k (t ∷ ts) ≡ some t
unfolding find
find_head k t ts e = rw (eq-eqb k t.key e)

pub find_tail : (k : ℕ) (t : Section) (ts : List Section) → (k ≡ t.key → ⊥) → find k (t ∷ ts) ≡ find k ts
unfolding find
find_tail k t ts e = rw (ne_eqb k t.key e)

pub find_above : (k l : ℕ) (ts : List Section) → Above k (keys_in ts) → l ≤ k → find l ts ≡ none
find_above k l [] a h = find_nil l
find_above k l (t ∷ ts) a h =
    find_tail l t ts (λ e. omega (arith, a.0)) ∙ find_above t.key l ts a.1 (omega (arith, a.0))

-- ---- two rising tables in which the same is found are the same
none-some : {X : Type 0} (s : Section) → none ≡ some s → X
none-some s e = let z : ◌≡◌ {A = ℕ} 0 1 = cc in absurd (omega arith)

module _ (s t : Section) (ss ts : List Section) (a : Above s.key (keys_in ss)) (b : Above t.key (keys_in ts))
    (e : (k : ℕ) → find k (s ∷ ss) ≡ find k (t ∷ ts)) where
  same_head : Tri s.key t.key → s ≡ t
  same_head (less h) =
      none-some s (sym (find_above s.key s.key (t ∷ ts) (h, b) (omega arith)) ∙ sym (e s.key) ∙ find_head s.key s ss refl)
  same_head (same h) = let q : some s ≡ some t = sym (find_head s.key s ss refl) ∙ e s.key ∙ find_head s.key t ts h in cc
  same_head (more h) =
      none-some t (sym (find_above t.key t.key (s ∷ ss) (h, a) (omega arith)) ∙ e t.key ∙ find_head t.key t ts refl)

  same_tail : s ≡ t → (k : ℕ) → Dec (k ≡ s.key) → find k ss ≡ find k ts
  same_tail p k (yes h) =
      find_above s.key k ss a (omega arith) ∙ sym (find_above t.key k ts b (omega (arith, ap (λ (x : Section). x.key) p)))
  same_tail p k (no h) = sym (find_tail k s ss h) ∙ e k ∙ find_tail k t ts (λ q. h (q ∙ ap (λ (x : Section). x.key) (sym p)))

pub find_ext : (ss ts : List Section) → Rising (keys_in ss) → Rising (keys_in ts) → ((k : ℕ) → find k ss ≡ find k ts) → ss ≡ ts
find_ext [] [] a b e = refl
find_ext [] (t ∷ ts) a b e = none-some t (sym (find_nil t.key) ∙ e t.key ∙ find_head t.key t ts refl)
find_ext (s ∷ ss) [] a b e = none-some s (sym (find_nil s.key) ∙ sym (e s.key) ∙ find_head s.key s ss refl)
find_ext (s ∷ ss) (t ∷ ts) a b e =
    let p : s ≡ t = same_head s t ss ts a b e (tri s.key t.key) in
    ap₂ ◌∷◌ p
    (find_ext ss ts (above_rising s.key (keys_in ss) a) (above_rising t.key (keys_in ts) b) (λ k. same_tail s t ss ts a b e p k (ℕ_discrete k s.key)))

-- ---- the three cases of absorbing
pub absorb_less : (s t : Section) (ts : List Section) → s.key < t.key → absorb s (t ∷ ts) ≡ s ∷ t ∷ ts
unfolding absorb
absorb_less s t ts h = rw (lt-ltb s.key t.key h)

pub absorb-same : (s t : Section) (ts : List Section) → s.key ≡ t.key → absorb s (t ∷ ts) ≡ combine t s ∷ ts
unfolding absorb
absorb-same s t ts h = rw (le-ltb s.key t.key (omega arith), eq-eqb s.key t.key h)

pub absorb_more : (s t : Section) (ts : List Section) → t.key < s.key → absorb s (t ∷ ts) ≡ t ∷ absorb s ts
unfolding absorb
absorb_more s t ts h = rw (le-ltb s.key t.key (omega arith), ne_eqb s.key t.key (λ e. omega arith))

-- what holds of an empty table, and in each of these cases, holds of every table
pub absorb-cases : (P : List Section → List Section → Type 0) (s : Section) → P [] (s ∷ [])
    → ((t : Section) (ts : List Section) → s.key < t.key → P (t ∷ ts) (s ∷ t ∷ ts))
    → ((t : Section) (ts : List Section) → s.key ≡ t.key → P (t ∷ ts) (combine t s ∷ ts))
    → ((t : Section) (ts : List Section) → t.key < s.key → P ts (absorb s ts) → P (t ∷ ts) (t ∷ absorb s ts))
    → (ts : List Section) → P ts (absorb s ts)
unfolding absorb
absorb-cases P s first lower equal upper [] = first
absorb-cases P s first lower equal upper (t ∷ ts) = go (absorb-cases P s first lower equal upper ts) (tri s.key t.key)
  where
    go : P ts (absorb s ts) → Tri s.key t.key → P (t ∷ ts) (absorb s (t ∷ ts))
    go ih (less h) = rw (absorb_less s t ts h) (lower t ts h)
    go ih (same h) = rw (absorb-same s t ts h) (equal t ts h)
    go ih (more h) = rw (absorb_more s t ts h) (upper t ts h ih)

-- ---- keys stay rising, and no section leaves
absorb_above : (s : Section) (ts : List Section)
    → ((k : ℕ) → k < s.key → Above k (keys_in ts) → Above k (keys_in (absorb s ts))) × (Rising (keys_in ts) → Rising (keys_in (absorb s ts)))
unfolding combine
absorb_above s =
    absorb-cases (λ (ts us : List Section). ((k : ℕ) → k < s.key → Above k (keys_in ts) → Above k (keys_in us)) × (Rising (keys_in ts) → Rising (keys_in us))) s
    ((λ k h a. (h, tt)), (λ a. tt))
    (λ t ts h. ((λ k l a. (l, (h, a.1))), (λ a. (h, a))))
    (λ t ts h. ((λ k l a. a), (λ a. a)))
    (λ t ts h ih. ((λ k l a. (a.0, ih.0 t.key h a.1)), (λ a. ih.0 t.key h a)))

pub absorb-rising : (s : Section) (ts : List Section) → Rising (keys_in ts) → Rising (keys_in (absorb s ts))
absorb-rising s ts = (absorb_above s ts).1

absorb-length : (s : Section) (ts : List Section) → length ts ≤ length (absorb s ts)
absorb-length s =
    absorb-cases (λ (ts us : List Section). length ts ≤ length us) s (omega arith)
    (λ t ts h. omega arith) (λ t ts h. omega arith) (λ t ts h ih. omega arith)

pub merged-rising : (ts ss : List Section) → Rising (keys_in ts) → Rising (keys_in (merged ts ss))
unfolding merged
merged-rising ts [] a = a
merged-rising ts (s ∷ ss) a = merged-rising (absorb s ts) ss (absorb-rising s ts a)

pub merged-length : (ts ss : List Section) → length ts ≤ length (merged ts ss)
unfolding merged
merged-length ts [] = le_refl (length ts)
merged-length ts (s ∷ ss) = le_trans (absorb-length s ts) (merged-length (absorb s ts) ss)

-- an add is a merge of the sections of its rows
pub added-merged : (ts : List Section) (rs : List Row) → added ts rs ≡ merged ts (map of_row rs)
unfolding added merged
added-merged ts [] = refl
added-merged ts (r ∷ rs) = added-merged (absorb (of_row r) ts) rs

pub added-rising : (ts : List Section) (rs : List Row) → Rising (keys_in ts) → Rising (keys_in (added ts rs))
added-rising ts rs a = rw (added-merged ts rs) (merged-rising ts (map of_row rs) a)

-- ---- what is found after absorbing and merging
unfoldable pub join : Option Section → Option Section → Option Section
join none y = y
join (some a) none = some a
join (some a) (some b) = some (combine a b)

unfoldable pub only : ℕ → Section → Option Section
only l s = cond (eqb l s.key) (some s) none

pub join_none : (x : Option Section) → join x none ≡ x
unfolding join
join_none none = refl
join_none (some a) = refl

pub none_join : (y : Option Section) → join none y ≡ y
unfolding join
none_join y = refl

join_some : (a b : Section) → join (some a) (some b) ≡ some (combine a b)
unfolding join
join_some a b = refl

pub join_assoc : (x y z : Option Section) → join (join x y) z ≡ join x (join y z)
unfolding join
join_assoc none y z = refl
join_assoc (some a) none z = refl
join_assoc (some a) (some b) none = refl
join_assoc (some a) (some b) (some c) = ap some (combine_assoc a b c)

pub only_is : (l : ℕ) (s : Section) → l ≡ s.key → only l s ≡ some s
unfolding only
only_is l s e = rw (eq-eqb l s.key e)

pub only_not : (l : ℕ) (s : Section) → (l ≡ s.key → ⊥) → only l s ≡ none
unfolding only
only_not l s e = rw (ne_eqb l s.key e)

combine-key : (t s : Section) → (combine t s).key ≡ t.key
unfolding combine
combine-key t s = refl

find_cons : (l : ℕ) (t : Section) (ts : List Section) → find l ts ≡ none → find l (t ∷ ts) ≡ only l t
unfolding find only
find_cons l t ts e = ap (λ (o : Option Section). cond (eqb l t.key) (some t) o) e

pub find-absorb : (s : Section) (l : ℕ) (ts : List Section) → Rising (keys_in ts) → find l (absorb s ts) ≡ join (find l ts) (only l s)
find-absorb s l =
    absorb-cases (λ (ts us : List Section). Rising (keys_in ts) → find l us ≡ join (find l ts) (only l s)) s
    (λ a. find_cons l s [] (find_nil l) ∙ sym (ap (λ (o : Option Section). join o (only l s)) (find_nil l) ∙ none_join (only l s)))
    (λ t ts h a. lower t ts h a (ℕ_discrete l s.key))
    (λ t ts h a. equal t ts h (ℕ_discrete l t.key))
    (λ t ts h ih a. upper t ts h (ih (above_rising t.key (keys_in ts) a)) (ℕ_discrete l t.key))
  where
    lower : (t : Section) (ts : List Section) → s.key < t.key → Above t.key (keys_in ts) → Dec (l ≡ s.key)
        → find l (s ∷ t ∷ ts) ≡ join (find l (t ∷ ts)) (only l s)
    lower t ts h a (yes p) = rw (find_head l s (t ∷ ts) p, find_above s.key l (t ∷ ts) (h, a) (omega arith), only_is l s p, none_join)
    lower t ts h a (no p) = rw (find_tail l s (t ∷ ts) p, only_not l s p, join_none)

    equal : (t : Section) (ts : List Section) → s.key ≡ t.key → Dec (l ≡ t.key) → find l (combine t s ∷ ts) ≡ join (find l (t ∷ ts)) (only l s)
    equal t ts h (yes q) =
        rw (find_head l (combine t s) ts (q ∙ sym (combine-key t s)), find_head l t ts q, only_is l s (q ∙ sym h), join_some)
    equal t ts h (no q) =
        rw (find_tail l (combine t s) ts (λ e. q (e ∙ combine-key t s)), find_tail l t ts q, only_not l s (λ e. q (e ∙ h)), join_none)

    upper : (t : Section) (ts : List Section) → t.key < s.key → find l (absorb s ts) ≡ join (find l ts) (only l s) → Dec (l ≡ t.key)
        → find l (t ∷ absorb s ts) ≡ join (find l (t ∷ ts)) (only l s)
    upper t ts h ih (yes q) = rw (find_head l t (absorb s ts) q, find_head l t ts q, only_not l s (λ e. omega arith), join_none)
    upper t ts h ih (no q) = rw (find_tail l t (absorb s ts) q, find_tail l t ts q) ih

merged-step : (s : Section) (ss ts : List Section) (l : ℕ) → Above s.key (keys_in ss) → Rising (keys_in ts) → Dec (l ≡ s.key)
    → join (find l (absorb s ts)) (find l ss) ≡ join (find l ts) (find l (s ∷ ss))
merged-step s ss ts l a b (yes e) =
    rw (find-absorb s l ts b, find_above s.key l ss a (omega arith), join_none, only_is l s e, find_head l s ss e)
merged-step s ss ts l a b (no e) = rw (find-absorb s l ts b, only_not l s e, join_none, find_tail l s ss e)

pub find-merged : (ts ss : List Section) (l : ℕ) → Rising (keys_in ts) → Rising (keys_in ss) → find l (merged ts ss) ≡ join (find l ts) (find l ss)
unfolding merged
find-merged ts [] l a b = rw (find_nil l) (sym (join_none (find l ts)))
find-merged ts (s ∷ ss) l a b =
    find-merged (absorb s ts) ss l (absorb-rising s ts a) (above_rising s.key (keys_in ss) b) ∙ merged-step s ss ts l b a (ℕ_discrete l s.key)
