-- The table of some rows is the one rising table in which each section of the rows is found; so adding rows to it, or merging two, gives the table of all.
use Prim.Native.Nat.{ℕ, ◌<◌}
use mathlib.Core.Path.{◌≡◌, refl, sym, ◌∙◌, ap, ap₂}
use mathlib.Core.Bool.{Bool, true, false, cond}
use mathlib.Core.List.{List, [], ◌∷◌, ◌++◌, map, append-nil, append_assoc}
use mathlib.Core.Option.{none, some}
use native.Mathlib.Omega.{arith}
use native.Mathlib.Decide.{ℕ_discrete}
use borrow.Author.Tests.{eq-eqb, ne_eqb, lt-ltb, le-ltb}
use lib.Dec.{eqb}
use Rattle.level.specs.Level.{top_of}
use Rattle.record.specs.Section.{Section, find, section_of}
use Rattle.columns.specs.Columns.{Row}
use Rattle.table.specs.Combine.{of_row, absorb, merged, added}
use Rattle.table.proofs.Lookup.{Above, Rising, keys_in, Tri, less, same, more, tri, find_nil, find_head, find_tail, find_ext, absorb-rising, merged-rising, join, only, only_is, only_not, find-absorb, find-merged}
use Rattle.history.specs.Rows.{section_bits, insert_key, section_numbers}
use Rattle.history.specs.Canonical.{section_if, canonical}
use Rattle.history.proofs.Sections.{section_key, row_section, join_sections}

-- ---- the rows of a section
pub section_bits_is : (k : ℕ) (r : Row) (rs : List Row) → k ≡ r.key → section_bits k (r ∷ rs) ≡ r.bits ∷ section_bits k rs
unfolding section_bits
section_bits_is k r rs e = rw (eq-eqb k r.key e) refl

pub section_bits_not : (k : ℕ) (r : Row) (rs : List Row) → (k ≡ r.key → ⊥) → section_bits k (r ∷ rs) ≡ section_bits k rs
unfolding section_bits
section_bits_not k r rs e = rw (ne_eqb k r.key e)

pub section_bits-append : (k : ℕ) (xs ys : List Row) → section_bits k (xs ++ ys) ≡ section_bits k xs ++ section_bits k ys
unfolding section_bits
section_bits-append k [] ys = refl
section_bits-append k (x ∷ xs) ys = go (section_bits-append k xs ys) (eqb k x.key)
  where
    go : section_bits k (xs ++ ys) ≡ section_bits k xs ++ section_bits k ys → (b : Bool)
        → cond b (x.bits ∷ section_bits k (xs ++ ys)) (section_bits k (xs ++ ys)) ≡ cond b (x.bits ∷ section_bits k xs) (section_bits k xs) ++ section_bits k ys
    go ih true = ap (λ (l : List ℕ). x.bits ∷ l) ih
    go ih false = ih

-- ---- what is found in the table of some rows
module _ (F : ℕ → Section) (keyed : (k : ℕ) → (F k).key ≡ k) (k : ℕ) where
  find_is : (l : ℕ) (ts : List Section) → k ≡ l → find k (F l ∷ ts) ≡ some (F k)
  find_is l ts e = find_head k (F l) ts (e ∙ sym (keyed l)) ∙ ap (λ (x : ℕ). some (F x)) (sym e)

  find_not : (l : ℕ) (ts : List Section) → (k ≡ l → ⊥) → find k (F l ∷ ts) ≡ find k ts
  find_not l ts e = find_tail k (F l) ts (λ q. e (q ∙ keyed l))

  find_here : (a : ℕ) (ts : List Section) → Dec (k ≡ a) → find k (F a ∷ ts) ≡ cond (eqb k a) (some (F k)) (find k ts)
  find_here a ts (yes e) = rw (find_is a ts e, eq-eqb k a e)
  find_here a ts (no e) = rw (find_not a ts e, ne_eqb k a e)

  find-insert : (a : ℕ) (ls : List ℕ) → find k (map F (insert_key a ls)) ≡ cond (eqb k a) (some (F k)) (find k (map F ls))
  unfolding insert_key
  find-insert a [] = find_here a [] (ℕ_discrete k a)
  find-insert a (l ∷ ls) = go (find-insert a ls) (tri a l) (ℕ_discrete k l)
    where
      go : find k (map F (insert_key a ls)) ≡ cond (eqb k a) (some (F k)) (find k (map F ls)) → Tri a l → Dec (k ≡ l)
          → find k (map F (insert_key a (l ∷ ls))) ≡ cond (eqb k a) (some (F k)) (find k (map F (l ∷ ls)))
      go ih (less h) d = rw (lt-ltb a l h) (find_here a (map F (l ∷ ls)) (ℕ_discrete k a))
      go ih (same h) (yes d) = rw (le-ltb a l (omega arith), eq-eqb a l h, eq-eqb k a (d ∙ sym h)) (find_is l (map F ls) d)
      go ih (same h) (no d) = rw (le-ltb a l (omega arith), eq-eqb a l h, ne_eqb k a (λ e. d (e ∙ h)))
      go ih (more h) (yes d) =
          rw (le-ltb a l (omega arith), ne_eqb a l (λ e. omega arith), ne_eqb k a (λ e. omega arith), find_is l (map F (insert_key a ls)) d, find_is l (map F ls) d)
      go ih (more h) (no d) =
          rw (le-ltb a l (omega arith), ne_eqb a l (λ e. omega arith), find_not l (map F (insert_key a ls)) d, find_not l (map F ls) d) ih

-- whether a list has a member
abbrev non_empty : List ℕ → Bool
non_empty [] = false
non_empty (b ∷ bs) = true

find-numbers : (F : ℕ → Section) → ((k : ℕ) → (F k).key ≡ k) → (k : ℕ) (rows : List Row)
    → find k (map F (section_numbers rows)) ≡ cond (non_empty (section_bits k rows)) (some (F k)) none
unfolding section_numbers section_bits
find-numbers F keyed k [] = find_nil k
find-numbers F keyed k (r ∷ rs) = find-insert F keyed k r.key (section_numbers rs) ∙ go (find-numbers F keyed k rs) (eqb k r.key)
  where
    go : find k (map F (section_numbers rs)) ≡ cond (non_empty (section_bits k rs)) (some (F k)) none → (b : Bool)
        → cond b (some (F k)) (find k (map F (section_numbers rs))) ≡ cond (non_empty (cond b (r.bits ∷ section_bits k rs) (section_bits k rs))) (some (F k)) none
    go ih true = refl
    go ih false = ih

if_non_empty : (k : ℕ) (bs : List ℕ) → cond (non_empty bs) (some (section_of k bs)) none ≡ section_if k bs
unfolding section_if
if_non_empty k [] = refl
if_non_empty k (b ∷ bs) = refl

pub find-canonical : (k : ℕ) (rows : List Row) → find k (canonical rows) ≡ section_if k (section_bits k rows)
unfolding canonical
find-canonical k rows =
    find-numbers (λ l. section_of l (section_bits l rows)) (λ l. section_key l (top_of (section_bits l rows)) (section_bits l rows)) k rows ∙ if_non_empty k (section_bits k rows)

-- ---- its keys rise
insert_above : (k a : ℕ) (ls : List ℕ) → k < a → Above k ls → Above k (insert_key a ls)
unfolding insert_key
insert_above k a [] h r = (h, tt)
insert_above k a (l ∷ ls) h r = go (insert_above l a ls) (tri a l)
  where
    go : (l < a → Above l ls → Above l (insert_key a ls)) → Tri a l → Above k (insert_key a (l ∷ ls))
    go ih (less e) = rw (lt-ltb a l e) (h, (e, r.1))
    go ih (same e) = rw (le-ltb a l (omega arith), eq-eqb a l e) r
    go ih (more e) = rw (le-ltb a l (omega arith), ne_eqb a l (λ q. omega arith)) (r.0, ih e r.1)

insert-rising : (a : ℕ) (ls : List ℕ) → Rising ls → Rising (insert_key a ls)
unfolding insert_key
insert-rising a [] r = tt
insert-rising a (l ∷ ls) r = go (tri a l)
  where
    go : Tri a l → Rising (insert_key a (l ∷ ls))
    go (less e) = rw (lt-ltb a l e) (e, r)
    go (same e) = rw (le-ltb a l (omega arith), eq-eqb a l e) r
    go (more e) = rw (le-ltb a l (omega arith), ne_eqb a l (λ q. omega arith)) (insert_above l a ls e r)

pub numbers-rising : (rows : List Row) → Rising (section_numbers rows)
unfolding section_numbers
numbers-rising [] = tt
numbers-rising (r ∷ rs) = insert-rising r.key (section_numbers rs) (numbers-rising rs)

numbers-back : (g : ℕ → List ℕ) (ls : List ℕ) → keys_in (map (λ l. section_of l (g l)) ls) ≡ ls
numbers-back g [] = refl
numbers-back g (l ∷ ls) = ap₂ ◌∷◌ (section_key l (top_of (g l)) (g l)) (numbers-back g ls)

pub canonical-rising : (rows : List Row) → Rising (keys_in (canonical rows))
unfolding canonical
canonical-rising rows = rw (numbers-back (λ k. section_bits k rows) (section_numbers rows)) (numbers-rising rows)

-- ---- it is the one rising table in which the sections of the rows are found
pub is_canonical : (ts : List Section) (rows : List Row) → Rising (keys_in ts) → ((k : ℕ) → find k ts ≡ section_if k (section_bits k rows)) → ts ≡ canonical rows
is_canonical ts rows a e = find_ext ts (canonical rows) a (canonical-rising rows) (λ k. e k ∙ sym (find-canonical k rows))

only_row : (r : Row) (l : ℕ) → Dec (l ≡ r.key) → only l (section_of r.key (r.bits ∷ [])) ≡ section_if l (section_bits l (r ∷ []))
unfolding section_if section_bits
only_row r l (yes e) =
    only_is l _ (e ∙ sym (section_key r.key (top_of (r.bits ∷ [])) (r.bits ∷ []))) ∙ rw (section_bits_is l r [] e) (ap (λ (k : ℕ). some (section_of k (r.bits ∷ []))) (sym e))
only_row r l (no e) = only_not l _ (λ q. e (q ∙ section_key r.key (top_of (r.bits ∷ [])) (r.bits ∷ []))) ∙ rw (section_bits_not l r [] e)

absorb-canonical : (rows : List Row) (r : Row) → absorb (of_row r) (canonical rows) ≡ canonical (rows ++ (r ∷ []))
absorb-canonical rows r =
    is_canonical _ (rows ++ (r ∷ [])) (absorb-rising _ (canonical rows) (canonical-rising rows))
    (λ l. find-absorb (of_row r) l (canonical rows) (canonical-rising rows)
    ∙ ap₂ join (find-canonical l rows) (ap (only l) (row_section r) ∙ only_row r l (ℕ_discrete l r.key))
    ∙ join_sections l (section_bits l rows) (section_bits l (r ∷ []))
    ∙ ap (section_if l) (sym (section_bits-append l rows (r ∷ []))))

pub added-canonical : (rows rs : List Row) → added (canonical rows) rs ≡ canonical (rows ++ rs)
unfolding added
added-canonical rows [] = rw append-nil
added-canonical rows (r ∷ rs) =
    rw (absorb-canonical rows r) (added-canonical (rows ++ (r ∷ [])) rs ∙ ap canonical (append_assoc rows (r ∷ []) rs))

pub merged-canonical : (xs ys : List Row) → merged (canonical xs) (canonical ys) ≡ canonical (xs ++ ys)
merged-canonical xs ys =
    is_canonical _ (xs ++ ys) (merged-rising (canonical xs) (canonical ys) (canonical-rising xs))
    (λ l. find-merged (canonical xs) (canonical ys) l (canonical-rising xs) (canonical-rising ys)
    ∙ ap₂ join (find-canonical l xs) (find-canonical l ys)
    ∙ join_sections l (section_bits l xs) (section_bits l ys)
    ∙ ap (section_if l) (sym (section_bits-append l xs ys)))
