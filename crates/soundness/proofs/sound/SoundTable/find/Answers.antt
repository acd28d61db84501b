use mathlib.Core.Path.{sym, ap, ◌∙◌}
use mathlib.Core.Option.{some}
use Rattle.record.specs.declared.Record.{Record}
use Rattle.record.specs.Section.{meaning}
use Rattle.record.proofs.Found.{found, missing}
use Rattle.soundness.proofs.sound.SoundTable.find.Goals as goal

pub returns-in-Ok : goal.returns-in-Ok
returns-in-Ok c =
    let t = c.args.self in
    (found t.bytes.now t.groups c.args.key c.in-Ok.i t.sound (sym c.in-Ok.is ∙ c.binary_search.ensures.place)).1 ∙ sym (ap (λ (r : Record). some (meaning r)) c.record.ensures)

pub returns-in-Err : goal.returns-in-Err
returns-in-Err c =
    let t = c.args.self in
    missing t.bytes.now t.groups c.args.key c.in-Err.field-0 t.sound (sym c.in-Err.is ∙ c.binary_search.ensures.place)
