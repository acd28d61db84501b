-- What holds of every two members with the same place in two lists of one length.
use Prim.Native.Nat.{ℕ, zero, suc, ◌<◌}
use mathlib.Core.Path.{◌≡◌, refl, ap}
use mathlib.Core.List.{List, [], ◌∷◌, ◌++◌}
use native.Mathlib.Omega.{arith}
use lib.ListN.{length, get_or}

abbrev pub Pairwise : {A B : Type 0} → (A → B → Type 0) → List A → List B → Type 0
Pairwise R [] [] = Unit {0}
Pairwise R [] (y ∷ ys) = ⊥
Pairwise R (x ∷ xs) [] = ⊥
Pairwise R (x ∷ xs) (y ∷ ys) = R x y × Pairwise R xs ys

module _ {A B : Type 0} (R : A → B → Type 0) where
  pub pairwise_length : (xs : List A) (ys : List B) → Pairwise R xs ys → length xs ≡ length ys
  pairwise_length [] [] h = refl
  pairwise_length [] (y ∷ ys) h = absurd h
  pairwise_length (x ∷ xs) [] h = absurd h
  pairwise_length (x ∷ xs) (y ∷ ys) h = ap suc (pairwise_length xs ys h.1)

  -- one more of each at the end
  pub pairwise_more : (xs : List A) (ys : List B) (x : A) (y : B) → Pairwise R xs ys → R x y → Pairwise R (xs ++ x ∷ []) (ys ++ y ∷ [])
  pairwise_more [] [] x y h r = (r, tt)
  pairwise_more [] (y' ∷ ys) x y h r = absurd h
  pairwise_more (x' ∷ xs) [] x y h r = absurd h
  pairwise_more (x' ∷ xs) (y' ∷ ys) x y h r = (h.0, pairwise_more xs ys x y h.1 r)

  pub pairwise_at : (xs : List A) (ys : List B) (n : ℕ) (d : A) (e : B) → Pairwise R xs ys → n < length ys → R (get_or xs n d) (get_or ys n e)
  pairwise_at [] [] n d e h l = absurd (omega arith)
  pairwise_at [] (y ∷ ys) n d e h l = absurd h
  pairwise_at (x ∷ xs) [] n d e h l = absurd h
  pairwise_at (x ∷ xs) (y ∷ ys) zero d e h l = h.0
  pairwise_at (x ∷ xs) (y ∷ ys) (suc n) d e h l = pairwise_at xs ys n d e h.1 (omega arith)
