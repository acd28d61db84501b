-- Whether one of a list has p.
use Prim.Native.Nat.{ℕ, ◌+◌, ◌<◌}
use mathlib.Core.Path.{◌≡◌, refl, sym, ap, ◌∙◌}
use mathlib.Core.Bool.{Bool, true, false, cond, ◌||◌, or-true, or-false, or_assoc, true≢false}
use mathlib.Core.List.{List, [], ◌∷◌, ◌++◌, map}
use native.Mathlib.Omega.{arith}
use native.Mathlib.Decide.{ℕ_discrete}
use borrow.Author.Tests.{ne_eqb}
use Rattle.lists.specs.Lists.{any_of, occurrences}
use Rattle.lists.proofs.Booleans.{both_false}
use Rattle.lists.proofs.All.{All}

module _ {A : Type 0} (p : A → Bool) where
  pub any_append : (xs : List A) (x : A) → any_of p (xs ++ x ∷ []) ≡ (any_of p xs || p x)
  unfolding any_of
  any_append [] x = or-false (p x)
  any_append (y ∷ ys) x = ap (λ (b : Bool). p y || b) (any_append ys x) ∙ sym (or_assoc (p y) (any_of p ys) (p x))

  -- none has p
  pub any_false : (xs : List A) → any_of p xs ≡ false → All (λ (x : A). p x ≡ false) xs
  unfolding any_of
  any_false [] e = tt
  any_false (x ∷ xs) e = let w = both_false (p x) (any_of p xs) e in (w.0, any_false xs w.1)

  pub any_never : ((x : A) → p x ≡ false) → (xs : List A) → any_of p xs ≡ false
  unfolding any_of
  any_never h [] = refl
  any_never h (x ∷ xs) = rw (h x) (any_never h xs)

  -- none of two lists has p
  pub any_false-append : (xs ys : List A) → any_of p (xs ++ ys) ≡ false → (any_of p xs ≡ false) × (any_of p ys ≡ false)
  unfolding any_of
  any_false-append [] ys e = (refl, e)
  any_false-append (x ∷ xs) ys e =
      let w = both_false (p x) (any_of p (xs ++ ys)) e in
      let v = any_false-append xs ys w.1 in
      (rw w.0 v.0, v.1)

  -- one has p
  pub any_true : (xs : List A) → any_of p xs ≡ true → (x : A) × (p x ≡ true)
  unfolding any_of
  any_true [] e = absurd (true≢false (sym e))
  any_true (x ∷ xs) e = by (p x) refl e (any_true xs)
    where
      by : (b : Bool) → p x ≡ b → (b || any_of p xs) ≡ true → (any_of p xs ≡ true → (y : A) × (p y ≡ true)) → (y : A) × (p y ≡ true)
      by true q e ih = (x, q)
      by false q e ih = ih e

  pub any_map : {B : Type 0} (f : B → A) (xs : List B) → any_of p (map f xs) ≡ any_of (λ (x : B). p (f x)) xs
  unfolding any_of
  any_map f [] = refl
  any_map f (x ∷ xs) = ap (λ (b : Bool). p (f x) || b) (any_map f xs)

-- a number of the list has p
pub any_occurs : (p : ℕ → Bool) (k : ℕ) (xs : List ℕ) → 0 < occurrences k xs → p k ≡ true → any_of p xs ≡ true
unfolding any_of occurrences
any_occurs p k [] h e = absurd (omega arith)
any_occurs p k (x ∷ xs) h e = by (ℕ_discrete x k) (any_occurs p k xs)
  where
    by : Dec (x ≡ k) → (0 < occurrences k xs → p k ≡ true → any_of p xs ≡ true) → (p x || any_of p xs) ≡ true
    by (yes q) ih = ap (λ (b : Bool). b || any_of p xs) (ap p q ∙ e)
    by (no q) ih = let l : 0 < cond false 1 0 + occurrences k xs = rw (ne_eqb x k q) at h in rw (ih (omega arith) e) (or-true (p x))
