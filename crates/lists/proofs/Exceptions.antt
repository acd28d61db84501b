-- What holds at each place of a list, by one test that is computed over the whole list: the exceptions are none.
use Prim.Native.Nat.{ℕ, zero, suc, ◌+◌, ◌<◌}
use mathlib.Core.Path.{◌≡◌, refl}
use mathlib.Core.Bool.{Bool, true, false, cond}
use mathlib.Core.List.{List, [], ◌∷◌}
use native.Mathlib.Nat.{add-zero, zero-add, add-suc, suc-add}
use native.Mathlib.Omega.{arith}
use lib.ListN.{length, get_or}
use Rattle.lists.specs.Lists.{exceptions}
use Rattle.lists.proofs.Booleans.{never}

-- no exception at the head, and none later
none_at : (b : Bool) (i : ℕ) (later : List ℕ) → cond b later (i ∷ later) ≡ [] → (b ≡ true) × (later ≡ [])
none_at true i later e = (refl, e)
none_at false i later e = never cc

module _ {A : Type 0} (p : ℕ → A → Bool) where
  from_at : (i : ℕ) (xs : List A) → exceptions p i xs ≡ [] → (k : ℕ) (d : A) → k < length xs → p (i + k) (get_or xs k d) ≡ true
  unfolding exceptions
  from_at i [] e k d h = absurd (omega arith)
  from_at i (x ∷ xs) e zero d h = rw add-zero (none_at (p i x) i (exceptions p (suc i) xs) e).0
  from_at i (x ∷ xs) e (suc k) d h = rw add-suc (rw suc-add at (from_at (suc i) xs (none_at (p i x) i (exceptions p (suc i) xs) e).1 k d (omega arith)))

  pub no_exceptions : (xs : List A) → exceptions p 0 xs ≡ [] → (k : ℕ) (d : A) → k < length xs → p k (get_or xs k d) ≡ true
  no_exceptions xs e k d h = rw zero-add at (from_at 0 xs e k d h)
