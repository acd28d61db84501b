-- What the steps of a removal promise each other.
use Rattle.std.specs.Prelude.{ℕ, ◌≡◌, true, false, List, [], ◌∷◌, length}
use Rattle.std.proofs.Math.Option.{Option}
use Rattle.refusal.specs.Outcome.{Outcome, ground, outcome}
use Rattle.record.specs.Section.{Section}
use Rattle.std.specs.Prelude as prelude
use Rattle.remove.specs.declared.Enough.{Enough}
use Rattle.remove.specs.Remaining.{remaining, has_fewer, has_lower, too_few_rows, raises_top}
use Rattle.remove.specs.Calls.{patch_grounds, leaves_fewer}

-- how the patch's section p stands to what is held of it
abbrev pub Stands : Option Section → Section → prelude.Option Enough → Type 0
Stands t p prelude.None = has_fewer t p ≡ true
Stands t p (prelude.Some e) = (has_fewer t p ≡ false) × (has_lower t p ≡ e.too_low)

-- 20 and 21 alone
abbrev pub compared_outcome : List Section → List Section → Outcome (Unit {0})
compared_outcome ts ps = outcome (ground 20 (too_few_rows ts ps) ∷ ground 21 (raises_top ts ps) ∷ []) tt

-- the patch with the sections ps taken out of the table of g records in s, the sections ts: accepted, or refused and as it was
abbrev pub TakenOut : List ℕ → ℕ → List Section → List Section → Outcome ℕ → List ℕ → Type 0
TakenOut s g ts ps r s' = (r ≡ outcome (patch_grounds ts ps) (length (remaining ts ps))) × (s' ≡ leaves_fewer r (remaining ts ps) g s)
