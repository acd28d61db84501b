-- Rows that occur equally often are a permutation of each other, and a permutation keeps each section; so the same rows give the same table.
use Prim.Native.Nat.{ℕ, suc, ◌+◌, ◌<◌}
use mathlib.Core.Path.{◌≡◌, refl, sym, ◌∙◌, ap, subst}
use mathlib.Core.Bool.{true, false, cond}
use mathlib.Core.List.{List, [], ◌∷◌}
use mathlib.Core.Option.{Option}
use native.Mathlib.Omega.{arith}
use native.Mathlib.Decide.{ℕ_discrete}
use borrow.Author.Tests.{eq-eqb, ne_eqb}
use Rattle.record.specs.Section.{Section}
use Rattle.columns.specs.Columns.{Row}
use Rattle.table.proofs.Lookup.{join, join_assoc}
use Rattle.history.specs.Rows.{equal_rows, occurs, Permutation, unmoved, prepended, swapped, chained, SameRows, section_bits}
use Rattle.history.specs.Canonical.{section_if, canonical}
use Rattle.history.proofs.Sections.{join_sections, join_comm}
use Rattle.history.proofs.Canonical.{section_bits-append, is_canonical, find-canonical, canonical-rising}

-- ---- equal occurrences make a permutation
pub dec_row : (r s : Row) → Dec (r ≡ s)
dec_row r s = go (ℕ_discrete r.key s.key) (ℕ_discrete r.bits s.bits)
  where
    go : Dec (r.key ≡ s.key) → Dec (r.bits ≡ s.bits) → Dec (r ≡ s)
    go (yes e) (yes f) = yes (λ i. record { key = e i; bits = f i })
    go (yes e) (no f) = no (λ q. f (ap (λ (x : Row). x.bits) q))
    go (no e) d = no (λ q. e (ap (λ (x : Row). x.key) q))

pub equal_is : (r s : Row) → r ≡ s → equal_rows r s ≡ true
equal_is r s e = rw (eq-eqb r.key s.key (ap (λ (x : Row). x.key) e), eq-eqb r.bits s.bits (ap (λ (x : Row). x.bits) e))

pub equal_not : (r s : Row) → (r ≡ s → ⊥) → equal_rows r s ≡ false
equal_not r s h = go (ℕ_discrete r.key s.key)
  where
    go : Dec (r.key ≡ s.key) → equal_rows r s ≡ false
    go (yes e) = rw (eq-eqb r.key s.key e, ne_eqb r.bits s.bits (λ f. h (λ i. record { key = e i; bits = f i })))
    go (no e) = rw (ne_eqb r.key s.key e)

pub occurs_is : (r s : Row) (ss : List Row) → r ≡ s → occurs r (s ∷ ss) ≡ suc (occurs r ss)
unfolding occurs
occurs_is r s ss e = rw (equal_is r s e) (omega arith)

pub occurs_not : (r s : Row) (ss : List Row) → (r ≡ s → ⊥) → occurs r (s ∷ ss) ≡ occurs r ss
unfolding occurs
occurs_not r s ss h = rw (equal_not r s h) (omega arith)

pub occurs_permuted : (r : Row) {xs ys : List Row} → Permutation xs ys → occurs r xs ≡ occurs r ys
unfolding occurs
occurs_permuted r unmoved = refl
occurs_permuted r (prepended {x = x} h) = ap (λ (n : ℕ). cond (equal_rows r x) 1 0 + n) (occurs_permuted r h)
occurs_permuted r (swapped {x = x} {y = y} {xs = xs}) = omega arith
occurs_permuted r (chained h k) = occurs_permuted r h ∙ occurs_permuted r k

-- a row that occurs can be brought to the front
pull : (x : Row) (ys : List Row) → 0 < occurs x ys → (zs : List Row) × Permutation (x ∷ zs) ys
unfolding occurs
pull x [] h = absurd (omega arith)
pull x (y ∷ ys) h = go (pull x ys) (dec_row x y)
  where
    go : (0 < occurs x ys → (zs : List Row) × Permutation (x ∷ zs) ys) → Dec (x ≡ y) → (zs : List Row) × Permutation (x ∷ zs) (y ∷ ys)
    go ih (yes e) = (ys, subst (λ (z : Row). Permutation (z ∷ ys) (y ∷ ys)) (sym e) unmoved)
    go ih (no e) = let p = ih (omega (arith, occurs_not x y ys e)) in (y ∷ p.0, chained swapped (prepended p.1))

-- one row less on both sides
occurs_less : (x r : Row) (xs ys zs : List Row) → occurs r (x ∷ xs) ≡ occurs r ys → Permutation (x ∷ zs) ys → occurs r xs ≡ occurs r zs
unfolding occurs
occurs_less x r xs ys zs h p = omega (arith, occurs_permuted r p)

pub permuted : (xs ys : List Row) → ((r : Row) → occurs r xs ≡ occurs r ys) → Permutation xs ys
unfolding occurs
permuted [] [] h = unmoved
permuted [] (y ∷ ys) h = absurd (omega (arith, h y, occurs_is y y ys refl))
permuted (x ∷ xs) ys h = go (permuted xs) (pull x ys (omega (arith, h x, occurs_is x x xs refl)))
  where
    go : ((zs : List Row) → ((r : Row) → occurs r xs ≡ occurs r zs) → Permutation xs zs) → (zs : List Row) × Permutation (x ∷ zs) ys → Permutation (x ∷ xs) ys
    go ih p = chained (prepended (ih p.0 (λ r. occurs_less x r xs ys p.0 (h r) p.1))) p.1

-- ---- a permutation keeps each section
module _ (k : ℕ) where
  -- the section of one row, where it has the number k
  abbrev section_one : Row → Option Section
  section_one x = section_if k (section_bits k (x ∷ []))

  section_cons : (x : Row) (xs : List Row) → section_if k (section_bits k (x ∷ xs)) ≡ join (section_one x) (section_if k (section_bits k xs))
  section_cons x xs = ap (section_if k) (section_bits-append k (x ∷ []) xs) ∙ sym (join_sections k (section_bits k (x ∷ [])) (section_bits k xs))

  section_two : (x y : Row) (xs : List Row) → section_if k (section_bits k (x ∷ y ∷ xs)) ≡ join (join (section_one x) (section_one y)) (section_if k (section_bits k xs))
  section_two x y xs = section_cons x (y ∷ xs) ∙ ap (join (section_one x)) (section_cons y xs) ∙ sym (join_assoc (section_one x) (section_one y) (section_if k (section_bits k xs)))

  section_permuted : {xs ys : List Row} → Permutation xs ys → section_if k (section_bits k xs) ≡ section_if k (section_bits k ys)
  section_permuted unmoved = refl
  section_permuted (prepended {x = x} {xs = xs} {ys = ys} h) = section_cons x xs ∙ ap (join (section_one x)) (section_permuted h) ∙ sym (section_cons x ys)
  section_permuted (swapped {x = x} {y = y} {xs = xs}) =
      section_two x y xs
      ∙ ap (λ (o : Option Section). join o (section_if k (section_bits k xs))) (join_comm k (section_bits k (x ∷ [])) (section_bits k (y ∷ [])))
      ∙ sym (section_two y x xs)
  section_permuted (chained h l) = section_permuted h ∙ section_permuted l

pub section_same : (k : ℕ) (xs ys : List Row) → SameRows xs ys → section_if k (section_bits k xs) ≡ section_if k (section_bits k ys)
section_same k xs ys h = section_permuted k (permuted xs ys h.counts)

pub canonical-same : (xs ys : List Row) → SameRows xs ys → canonical xs ≡ canonical ys
canonical-same xs ys h = is_canonical (canonical xs) ys (canonical-rising xs) (λ k. find-canonical k xs ∙ section_same k xs ys h)
