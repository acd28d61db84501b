-- Each entry of a constant table that passes the test is the top of every row with its field, since what the formula gives is.
use mathlib.Core.Path.{◌≡◌, sym, ap, ◌∙◌}
use mathlib.Core.List.{List, []}
use Prim.Native.Nat.{ℕ, ◌-◌, ◌<◌}
use native.Mathlib.Nat.{ne_of_gt}
use native.Mathlib.Omega.{arith}
use lib.ListN.{length, get_or}
use borrow.Author.Tests.{eqb-true}
use Rattle.lists.specs.Lists.{exceptions}
use Rattle.lists.proofs.Exceptions.{no_exceptions}
use Rattle.level.specs.ByField.{TopOfField, top_formula, by_formula}
use Rattle.level.proofs.Top.{top_normal}

pub entry_top : (ts : List ℕ) → length ts ≡ 2046 → exceptions by_formula 0 ts ≡ [] → (e : ℕ) → 0 < e → e < 2047 → TopOfField e (get_or ts (e - 1) 0)
entry_top ts n t e p l b h =
    eqb-true _ _ (no_exceptions by_formula ts t (e - 1) 0 (omega arith)) ∙ ap top_formula (omega (arith, h)) ∙ sym (top_normal b (ne_of_gt (omega (arith, h))))
