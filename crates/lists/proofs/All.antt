-- What holds of every member of a list.
use Prim.Native.Nat.{ℕ, zero, suc, ◌<◌}
use mathlib.Core.List.{List, [], ◌∷◌, ◌++◌}
use native.Mathlib.Omega.{arith}
use lib.ListN.{length, get_or}

abbrev pub All : {A : Type 0} → (A → Type 0) → List A → Type 0
All P [] = Unit {0}
All P (x ∷ xs) = P x × All P xs

module _ {A : Type 0} (P : A → Type 0) where
  -- what holds of everything
  pub all_hold : ((x : A) → P x) → (xs : List A) → All P xs
  all_hold f [] = tt
  all_hold f (x ∷ xs) = (f x, all_hold f xs)

  pub all_append : (xs ys : List A) → All P xs → All P ys → All P (xs ++ ys)
  all_append [] ys a b = b
  all_append (x ∷ xs) ys a b = (a.0, all_append xs ys a.1 b)

  pub all_map : (Q : A → Type 0) → ((x : A) → P x → Q x) → (xs : List A) → All P xs → All Q xs
  all_map Q f [] a = tt
  all_map Q f (x ∷ xs) a = (f x a.0, all_map Q f xs a.1)

  pub all_zip : (Q R : A → Type 0) → ((x : A) → P x → Q x → R x) → (xs : List A) → All P xs → All Q xs → All R xs
  all_zip Q R f [] a b = tt
  all_zip Q R f (x ∷ xs) a b = (f x a.0 b.0, all_zip Q R f xs a.1 b.1)

  pub all_at : (xs : List A) (i : ℕ) (d : A) → i < length xs → All P xs → P (get_or xs i d)
  all_at [] i d h a = absurd (omega arith)
  all_at (x ∷ xs) zero d h a = a.0
  all_at (x ∷ xs) (suc i) d h a = all_at xs i d (omega arith) a.1
