-- `with_sign` negates a size that fits an i64.
use mathlib.Core.Path.{sym, ap, ◌∙◌}
use mathlib.Core.Bool.{Bool}
use mir.Syntax.{w64}
use mir.ValLaws.{to_z_pos}
use Rattle.level.specs.Double.{signed}
use Rattle.integers.proofs.Width.{minus_fits, minus-back}
use Rattle.level.proofs.with_sign.Goals as goal

pub overflow_sub-result : goal.overflow_sub-result
overflow_sub-result c = minus_fits w64 c.args.magnitude c.requires

pub returns-then-sign : goal.returns-then-sign
returns-then-sign c =
    let n = c.args.magnitude in
    minus-back w64 n c.requires ∙ ap (λ (g : Bool). signed g n) (sym c.if-sign.true)

pub returns-else-sign : goal.returns-else-sign
returns-else-sign c =
    let n = c.args.magnitude in
    to_z_pos w64 n c.requires ∙ ap (λ (g : Bool). signed g n) (sym c.if-sign.false)
