-- `check_columns` makes the tests of 7 to 10 in their order.
use mathlib.Core.Path.{◌≡◌, refl, sym, ◌∙◌}
use mathlib.Core.Bool.{true, false}
use mathlib.Core.List.{[], ◌∷◌}
use borrow.Author.Tests.{not-true, not-false, lt-ltb, le-ltb}
use lib.Dec.{ltb}
use lib.ListN.{length}
use Rattle.refusal.specs.Outcome.{ground, outcome}
use Rattle.columns.specs.Columns.{columns_fit}
use Rattle.columns.proofs.Cells.{any_bits}
use Rattle.record.specs.Sound.{sound}
use Rattle.table.specs.Calls.{column_grounds, column_outcome}
use Rattle.table.proofs.check_columns.Goals as goal
use mathlib.Core.Path.{ap}
use mathlib.Core.Bool.{not}
use Rattle.table.proofs.check_columns.Goals.{After-any_not_finite, Else-not-fit, Else-not-is_sound, Else-work_len-table, Start}

-- what each test that was passed says
module _ (c : Else-not-is_sound) where
  sound_here : sound c.args.table.now c.args.g ≡ true
  sound_here = sym c.is_sound.ensures ∙ not-false c.is_sound.result (ap not c.if-not-is_sound.false)

long-here : (c : Else-work_len-table) → ltb c.args.work_len (length c.args.table.now) ≡ false
long-here c = le-ltb c.args.work_len (length c.args.table.now) c.if-work_len-table.false

fit-here : (c : Else-not-fit) → columns_fit c.args.kind c.args.keys.now c.args.values.now ≡ true
fit-here c = sym c.fit.ensures ∙ not-false c.fit.result (ap not c.if-not-fit.false)

-- with these three passed the rows decide
last-decides : (c : After-any_not_finite) → let a = c.args in
    column_outcome a.kind a.table.now a.g a.keys.now a.values.now a.work_len ≡ outcome (ground 10 c.any_not_finite.result ∷ []) tt
unfolding column_grounds
last-decides c =
    let a = c.args in
    rw (
      (sym c.is_sound.ensures ∙ not-false c.is_sound.result (ap not c.if-not-is_sound.false)),
      (le-ltb c.args.work_len (length c.args.table.now) c.if-work_len-table.false),
      (sym c.fit.ensures ∙ not-false c.fit.result (ap not c.if-not-fit.false)),
      any_bits a.kind a.keys.now a.values.now ((sym c.fit.ensures ∙ not-false c.fit.result (ap not c.if-not-fit.false))),
      ← c.any_not_finite.ensures,
    )
    refl

pub returns-then-not-is_sound : goal.returns-then-not-is_sound
unfolding column_grounds
returns-then-not-is_sound c = rw (← c.is_sound.ensures, not-true c.is_sound.result (ap not c.if-not-is_sound.true)) refl

pub returns-then-work_len-table : goal.returns-then-work_len-table
unfolding column_grounds
returns-then-work_len-table c =
    let a = c.args in
    rw (sound_here (goal.at.returns-then-work_len-table c).Else-not-is_sound, lt-ltb a.work_len (length a.table.now) c.if-work_len-table.true) refl

pub returns-then-not-fit : goal.returns-then-not-fit
unfolding column_grounds
returns-then-not-fit c =
    rw (sound_here (goal.at.returns-then-not-fit c).Else-not-is_sound, long-here (goal.at.returns-then-not-fit c).Else-work_len-table, ← c.fit.ensures, not-true c.fit.result (ap not c.if-not-fit.true)) refl

pub returns-then-any_not_finite : goal.returns-then-any_not_finite
returns-then-any_not_finite c = sym (last-decides (goal.at.returns-then-any_not_finite c).After-any_not_finite ∙ rw c.if-any_not_finite.true refl)

pub returns : goal.returns
returns c = sym (last-decides (goal.at.returns c).After-any_not_finite ∙ rw c.if-any_not_finite.false refl)
