-- What is asked of the members of a list.
use Rattle.std.specs.Prelude.{ℕ, suc, ◌+◌, Bool, false, cond, ◌||◌, List, [], ◌∷◌, eqb}

-- one of the list has p
unfoldable pub any_of : {A : Type 0} → (A → Bool) → List A → Bool
any_of p [] = false
any_of p (x ∷ xs) = p x || any_of p xs

-- how often k stands in a list
unfoldable pub occurrences : ℕ → List ℕ → ℕ
occurrences k [] = 0
occurrences k (x ∷ xs) = cond (eqb x k) 1 0 + occurrences k xs

-- the places, counted from i, where p does not hold of the place and its member
unfoldable pub exceptions : {A : Type 0} → (ℕ → A → Bool) → ℕ → List A → List ℕ
exceptions p i [] = []
exceptions p i (x ∷ xs) = let later = exceptions p (suc i) xs in cond (p i x) later (i ∷ later)
