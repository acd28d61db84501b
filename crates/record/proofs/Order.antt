-- Laws of rising keys. The idea: among rising keys those below k are the first ones, so that their number (`count_below`) is where k stands or would stand.
use Prim.Native.Nat.{ℕ, zero, suc, ◌<◌, ◌≤◌, zero-le}
use mathlib.Core.Path.{◌≡◌, refl, sym, subst}
use mathlib.Core.Bool.{Bool, true, false, cond, ◌||◌, or-true, true≢false}
use mathlib.Core.List.{List, [], ◌∷◌, ◌++◌}
use native.Mathlib.Nat.{lt_trans, eq-or-lt_of_le}
use mathlib.Core.Logic.{◌⊎◌, inl, inr, ⊎_elim}
use native.Mathlib.Omega.{arith}
use lib.Dec.{T, ltb, eqb, ltb→lt, lt→ltb}
use lib.Ieee.Fits.{and_l, and_r, and_i}
use lib.Arith.{lt_of_le-ne}
use borrow.Author.Tests.{lt-ltb, le-ltb, eq-eqb, ne_eqb, ltb-true, ltb-false, eqb-false, eqb-true}
use lib.ListN.{length, get_or, take, drop}
use Rattle.lists.proofs.Booleans.{both_false}
use Rattle.record.specs.Keys.{rising, count_below, has, place}
use Rattle.std.specs.Prelude.{Ok, Err}

-- the first key is below all the others
head_lt : (x : ℕ) (xs : List ℕ) → T (rising (x ∷ xs)) → (j : ℕ) → j < length xs → x < get_or xs j 0
unfolding rising
head_lt x [] h j l = absurd (omega arith)
head_lt x (y ∷ ys) h zero l = ltb→lt x y (and_l (ltb x y) (rising (y ∷ ys)) h)
head_lt x (y ∷ ys) h (suc j) l =
    lt_trans (ltb→lt x y (and_l (ltb x y) (rising (y ∷ ys)) h)) (head_lt y ys (and_r (ltb x y) (rising (y ∷ ys)) h) j (omega arith))

pub rising_tail : (x : ℕ) (xs : List ℕ) → T (rising (x ∷ xs)) → T (rising xs)
unfolding rising
rising_tail x [] h = tt
rising_tail x (y ∷ ys) h = and_r (ltb x y) (rising (y ∷ ys)) h

pub rising-lt : (ks : List ℕ) → T (rising ks) → (i j : ℕ) → i < j → j < length ks → get_or ks i 0 < get_or ks j 0
rising-lt [] h i j l m = absurd (omega arith)
rising-lt (x ∷ xs) h i zero l m = absurd (omega arith)
rising-lt (x ∷ xs) h zero (suc j) l m = head_lt x xs h j (omega arith)
rising-lt (x ∷ xs) h (suc i) (suc j) l m = rising-lt xs (rising_tail x xs h) i j (omega arith) (omega arith)

below_none : (k : ℕ) (xs : List ℕ) → ((j : ℕ) → j < length xs → k ≤ get_or xs j 0) → count_below k xs ≡ 0
unfolding count_below
below_none k [] h = refl
below_none k (x ∷ xs) h = rw (le-ltb x k (h 0 (omega arith))) (below_none k xs (λ j l. h (suc j) (omega arith)))

pub below-le : (k : ℕ) (ks : List ℕ) → count_below k ks ≤ length ks
unfolding count_below
below-le k [] = zero-le
below-le k (x ∷ xs) = by (ltb x k) (below-le k xs)
  where
    by : (b : Bool) → count_below k xs ≤ length xs → cond b (suc (count_below k xs)) (count_below k xs) ≤ suc (length xs)
    by true h = omega arith
    by false h = omega arith

module _ (k : ℕ) where
  -- a key below k is among the first ones
  pub below-lt : (ks : List ℕ) → T (rising ks) → (i : ℕ) → i < length ks → get_or ks i 0 < k → i < count_below k ks
  unfolding count_below
  below-lt [] h i l m = absurd (omega arith)
  below-lt (x ∷ xs) h zero l m = rw (lt-ltb x k m) (omega arith)
  below-lt (x ∷ xs) h (suc i) l m =
      rw (lt-ltb x k (lt_trans (head_lt x xs h i (omega arith)) m)) (omega (arith, below-lt xs (rising_tail x xs h) i (omega arith) m))

  pub below_ge : (ks : List ℕ) → T (rising ks) → (i : ℕ) → i < length ks → k ≤ get_or ks i 0 → count_below k ks ≤ i
  unfolding count_below
  below_ge [] h i l m = absurd (omega arith)
  below_ge (x ∷ xs) h zero l m =
      rw (le-ltb x k m, below_none k xs (λ j n. omega (arith, head_lt x xs h j n))) zero-le
  below_ge (x ∷ xs) h (suc i) l m = by (ltb x k) (below_ge xs (rising_tail x xs h) i (omega arith) m)
    where
      by : (b : Bool) → count_below k xs ≤ i → cond b (suc (count_below k xs)) (count_below k xs) ≤ suc i
      by true h = omega arith
      by false h = omega arith

  has_yes : (ks : List ℕ) (i : ℕ) → i < length ks → get_or ks i 0 ≡ k → has k ks ≡ true
  unfolding has
  has_yes [] i l e = absurd (omega arith)
  has_yes (x ∷ xs) zero l e = rw (eq-eqb x k e)
  has_yes (x ∷ xs) (suc i) l e = rw (has_yes xs i (omega arith) e) (or-true (eqb x k))

  has_no : (ks : List ℕ) → ((i : ℕ) → i < length ks → get_or ks i 0 ≡ k → ⊥) → has k ks ≡ false
  unfolding has
  has_no [] h = refl
  has_no (x ∷ xs) h = rw (ne_eqb x k (h 0 (omega arith))) (has_no xs (λ i l. h (suc i) (omega arith)))

  pub place_at : (ks : List ℕ) (b : ℕ) → b ≡ count_below k ks → b < length ks → get_or ks b 0 ≡ k → Ok b ≡ place k ks
  place_at ks b e l h = rw (has_yes ks b l h, e)

  pub place_gap : (ks : List ℕ) → T (rising ks) → (b : ℕ) → b ≡ count_below k ks → (b < length ks → get_or ks b 0 ≡ k → ⊥) → Err b ≡ place k ks
  place_gap ks r b e h = rw (has_no ks no, e)
    where
      no : (i : ℕ) → i < length ks → get_or ks i 0 ≡ k → ⊥
      no i l q =
          let m : count_below k ks ≤ i = below_ge ks r i l (omega arith) in
          ⊎_elim (λ p. h (omega arith) (subst (λ (n : ℕ). get_or ks n 0 ≡ k) (omega arith) q))
          (λ p. omega (arith, below-lt ks r b (omega arith) (omega (arith, rising-lt ks r b i (omega arith) l))))
          (eq-or-lt_of_le m)

  -- where k stands among rising keys, it stands there alone
  pub place_of : (ks : List ℕ) (i : ℕ) → T (rising ks) → i < length ks → get_or ks i 0 ≡ k → Ok i ≡ place k ks
  place_of ks i r l e = place_at ks i (sym (first (eq-or-lt_of_le (below_ge ks r i l (omega arith))))) l e
    where
      first : (count_below k ks ≡ i) ⊎ (count_below k ks < i) → count_below k ks ≡ i
      first (inl p) = p
      first (inr p) = absurd (omega (arith, below-lt ks r (count_below k ks) (omega arith) (omega (arith, rising-lt ks r (count_below k ks) i p l))))

-- ---- a new key in its gap

rising_cons : (x : ℕ) (l : List ℕ) → (0 < length l → x < get_or l 0 0) → T (rising l) → T (rising (x ∷ l))
unfolding rising
rising_cons x [] h r = tt
rising_cons x (y ∷ ys) h r = and_i (ltb x y) (rising (y ∷ ys)) (lt→ltb x y (h (omega arith))) r

-- the first of the keys is above x, also with k among them
first_above : (x k i : ℕ) (xs : List ℕ) → x < k → (0 < length xs → x < get_or xs 0 0) → x < get_or (take i xs ++ k ∷ drop i xs) 0 0
first_above x k zero xs h m = h
first_above x k (suc i) [] h m = h
first_above x k (suc i) (y ∷ ys) h m = m (omega arith)

pub rising-insert : (k : ℕ) (ks : List ℕ) → T (rising ks) → has k ks ≡ false → T (rising (take (count_below k ks) ks ++ k ∷ drop (count_below k ks) ks))
unfolding has count_below rising
rising-insert k [] r n = tt
rising-insert k (x ∷ xs) r n = by (ltb x k) refl (rising-insert k xs (rising_tail x xs r) (both_false (eqb x k) (has k xs) n).1)
  where
    by : (b : Bool) → ltb x k ≡ b
        → T (rising (take (count_below k xs) xs ++ k ∷ drop (count_below k xs) xs))
        → T (rising (take (cond b (suc (count_below k xs)) (count_below k xs)) (x ∷ xs) ++ k ∷ drop (cond b (suc (count_below k xs)) (count_below k xs)) (x ∷ xs)))
    by true e ih =
        rising_cons x (take (count_below k xs) xs ++ k ∷ drop (count_below k xs) xs)
        (λ l. first_above x k (count_below k xs) xs (ltb-true x k e) (λ m. head_lt x xs r 0 m))
        ih
    by false e ih =
        let h : k ≤ x = ltb-false x k e in
        rw (below_none k xs (λ j m. omega (arith, head_lt x xs r j m))) (rising_cons k (x ∷ xs) (λ l. lt_of_le-ne h (λ q. eqb-false x k (both_false (eqb x k) (has k xs) n).0 (sym q))) r)

-- ---- what a place says

has-true : (k : ℕ) (ks : List ℕ) → has k ks ≡ true → (j : ℕ) × (j < length ks) × (get_or ks j 0 ≡ k)
unfolding has
has-true k [] e = absurd (true≢false (sym e))
has-true k (x ∷ xs) e = by (eqb x k) refl e (has-true k xs)
  where
    by : (b : Bool) → eqb x k ≡ b → (b || has k xs) ≡ true → (has k xs ≡ true → (j : ℕ) × (j < length xs) × (get_or xs j 0 ≡ k))
        → (j : ℕ) × (j < suc (length xs)) × (get_or (x ∷ xs) j 0 ≡ k)
    by true q e ih = (0, omega arith, eqb-true x k q)
    by false q e ih = let w = ih e in (suc w.0, omega arith, w.2)

module _ (k : ℕ) (ks : List ℕ) (i : ℕ) where
  pub place_is_at : T (rising ks) → Ok i ≡ place k ks → (i < length ks) × (get_or ks i 0 ≡ k)
  place_is_at r e = by (has k ks) refl e
    where
      by : (b : Bool) → has k ks ≡ b → Ok i ≡ cond b (Ok (count_below k ks)) (Err (count_below k ks)) → (i < length ks) × (get_or ks i 0 ≡ k)
      by true q e =
          let w = has-true k ks q in
          let n : i ≡ count_below k ks = cc in
          let m : count_below k ks ≤ w.0 = below_ge k ks r w.0 w.1 (omega arith) in
          ⊎_elim (λ p. (omega arith, subst (λ (j : ℕ). get_or ks j 0 ≡ k) (omega arith) w.2))
          (λ p. absurd (omega (arith, below-lt k ks r (count_below k ks) (omega arith) (omega (arith, rising-lt ks r (count_below k ks) w.0 p w.1)))))
          (eq-or-lt_of_le m)
      by false q e = let z : ◌≡◌ {A = ℕ} 0 1 = cc in absurd (omega arith)

  pub place_is_gap : Err i ≡ place k ks → (i ≡ count_below k ks) × (has k ks ≡ false)
  place_is_gap e = by (has k ks) e
    where
      by : (b : Bool) → Err i ≡ cond b (Ok (count_below k ks)) (Err (count_below k ks)) → (i ≡ count_below k ks) × (b ≡ false)
      by true e = let z : ◌≡◌ {A = ℕ} 0 1 = cc in absurd (omega arith)
      by false e = (cc, refl)
