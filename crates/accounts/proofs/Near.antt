-- The kept value of a section that a table holds, and the exact sum of its rows: half a lowest unit apart for each row, and equal where the section is answered exact,
-- as it is at tops up to 2.
use Prim.Native.Nat.{ℕ, ◌-◌, ◌*◌, ◌≤◌}
use mathlib.Core.Path.{◌≡◌, refl, ◌∙◌}
use mathlib.Core.Bool.{true}
use mathlib.Core.List.{List, []}
use mathlib.Core.Option.{some}
use native.Mathlib.Omega.{arith}
use lib.IntN.{◌-ℤ◌, nat_abs}
use lib.ListN.{length}
use Rattle.refusal.specs.Outcome.{accepted}
use Rattle.level.specs.Level.{unit, exact_sum}
use Rattle.record.specs.Section.{Section, find, kept, section_at_top}
use Rattle.finish.specs.Exact.{answered_exact, exactness_outcome}
use Rattle.finish.proofs.Exact.{exact_power, power_exact}
use Rattle.finish.proofs.Outcomes.{section_given}
use Rattle.history.specs.Calls.{exactness}
use Rattle.history.specs.Run.{Store, exactness_is, ask_table}
use Rattle.history.specs.Demand3.{sections_in}
use Rattle.history.proofs.Near.{kept-within, kept_exact}
use Rattle.accounts.specs.Holds.{held_at, HoldsBits, with_record}

-- the finest power takes no part in it
held_kept : (k : ℕ) (bs : List ℕ) (t z : ℕ) → kept (held_at k bs t z) ≡ kept (section_at_top k t bs)
unfolding kept held_at section_at_top
held_kept k bs t z = refl

module _ (k : ℕ) (bs : List ℕ) where
  -- half a lowest unit for each row
  pub held-near : (s : Section) → HoldsBits k bs (some s) → nat_abs (kept s -ℤ exact_sum bs) * 2 ≤ length bs * unit (s.top - 2)
  unfolding held_at
  held-near s (with_record t z n l f) = rw (held_kept k bs t z) (kept-within k t bs l)

  -- nothing is lost where the held finest power reaches the lowest level
  pub held_exact : (s : Section) → HoldsBits k bs (some s) → answered_exact s ≡ true → kept s ≡ exact_sum bs
  unfolding held_at
  held_exact s (with_record t z n l f) e = held_kept k bs t z ∙ kept_exact k t bs l (omega (arith, exact_power (held_at k bs t z) e))

  -- as it does at tops up to 2
  pub held_low : (s : Section) → HoldsBits k bs (some s) → s.top ≤ 2 → kept s ≡ exact_sum bs
  held_low s h l = held_exact s h (power_exact s (omega arith))

-- a section that is answered exact is there
pub exact_found : (t : Store) (k : ℕ) → ask_table t (exactness k) ≡ exactness_is (accepted true) → (s : Section) × (find k (sections_in t) ≡ some s) × (answered_exact s ≡ true)
unfolding ask_table
exact_found t k e =
    let x : accepted true ≡ exactness_outcome t.buffer t.groups k = cc in
    let w = section_given (λ (s : Section). []) answered_exact t.buffer t.groups k true x in
    let y : answered_exact w.0 ≡ true = let z = w.1 in cc in
    (w.0, w.2, y)
