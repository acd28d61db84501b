-- What an answer of exact says of a section, and the number of a question that is refused.
use Prim.Native.Nat.{ℕ, ◌-◌, ◌*◌, ◌≤◌}
use mathlib.Core.Path.{◌≡◌, refl}
use mathlib.Core.Bool.{Bool, true, false, ◌||◌}
use mathlib.Core.List.{List, []}
use native.Mathlib.Omega.{arith}
use borrow.Author.Tests.{le-leb, leb-true}
use lib.Dec.{leb}
use Rattle.record.specs.Section.{Section}
use Rattle.refusal.specs.Outcome.{refused, IsLowest}
use Rattle.finish.specs.Finish.{finishing_grounds}
use Rattle.finish.specs.Exact.{answered_exact, exactness_outcome}
use Rattle.finish.proofs.Outcomes.{finishing_lowest}

-- its finest power is at least that of the lowest level's unit, which is 1 for tops up to 2
pub exact_power : (s : Section) → answered_exact s ≡ true → 40 * (s.top - 2) ≤ s.finest
exact_power s e = go (leb (40 * (s.top - 2)) s.finest) refl e
  where
    go : (b : Bool) → leb (40 * (s.top - 2)) s.finest ≡ b → (b || leb s.top 2) ≡ true → 40 * (s.top - 2) ≤ s.finest
    go true q f = leb-true (40 * (s.top - 2)) s.finest q
    go false q f = let l = leb-true s.top 2 f in omega arith

-- and a section with such a finest power is answered so
pub power_exact : (s : Section) → 40 * (s.top - 2) ≤ s.finest → answered_exact s ≡ true
power_exact s h = rw (le-leb (40 * (s.top - 2)) s.finest h)

-- a question that is refused is given the lowest number whose condition holds: 7, or 13
pub exactness_lowest : (s : List ℕ) (g k : ℕ) {n : ℕ} → exactness_outcome s g k ≡ refused n → IsLowest n (finishing_grounds (λ (t : Section). []) s g k)
exactness_lowest s g k = finishing_lowest (λ (t : Section). []) answered_exact s g k (λ t. refl)
