-- The terms of demand 3 mean what they say.
use Prim.Native.Nat.{ℕ, zero, suc, ◌≤◌, ◌<◌, max}
use mathlib.Core.Path.{◌≡◌}
use mathlib.Core.List.{List, [], ◌∷◌}
use native.Mathlib.Omega.{arith}
use native.Mathlib.Decide.{dec_le}
use lib.ListN.{length, get_or}
use Rattle.level.specs.Double.{magnitude}
use Rattle.level.proofs.Finest.{finest_whole, finest_most, finest_of_zeros, finest_of_others}
use Rattle.history.specs.Rows.{largest}
use Rattle.history.specs.Terms.{Terms}
use Rattle.history.proofs.Distinct.{once}
use Rattle.history.proofs.Order.{occurs_permuted, permuted}

all : (bs : List ℕ) (i : ℕ) → i < length bs → magnitude (get_or bs i 0) ≤ largest bs
unfolding largest
all [] i l = absurd (omega arith)
all (b ∷ bs) zero l = omega arith
all (b ∷ bs) (suc i) l = let h = all bs i (omega arith) in omega arith

one : (bs : List ℕ) → 0 < length bs → (i : ℕ) × (i < length bs) × (largest bs ≡ magnitude (get_or bs i 0))
unfolding largest
one [] l = absurd (omega arith)
one (b ∷ []) l = (0, omega arith, omega arith)
one (b ∷ c ∷ bs) l = go (one (c ∷ bs) (omega arith)) (dec_le (largest (c ∷ bs)) (magnitude b))
  where
    go : (i : ℕ) × (i < length (c ∷ bs)) × (largest (c ∷ bs) ≡ magnitude (get_or (c ∷ bs) i 0)) → Dec (largest (c ∷ bs) ≤ magnitude b)
        → (i : ℕ) × (i < length (b ∷ c ∷ bs)) × (max (magnitude b) (largest (c ∷ bs)) ≡ magnitude (get_or (b ∷ c ∷ bs) i 0))
    go p (yes h) = (0, omega arith, omega arith)
    go p (no h) = let n = p.1 in let q = p.2 in (suc p.0, omega arith, omega arith)

pub terms : Terms
terms = record {
  same_if = λ xs ys p. record { counts = λ r. occurs_permuted r p };
  same_only_if = λ xs ys h. permuted xs ys h.counts;
  numbers_once = once;
  largest_one = one;
  largest_all = all;
  finest_whole = finest_whole;
  finest_most = finest_most;
  finest_of_zeros = finest_of_zeros;
  finest_of_others = finest_of_others;
}
