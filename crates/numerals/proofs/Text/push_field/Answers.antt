-- `numerals::Text::push_field`: the text is the front of its memory, and the numeral and its ending go there after it.
use Rattle.std.proofs.Common.{[], ◌∷◌, sym, ◌∙◌, append_assoc, length-append, arith}
use Rattle.numerals.proofs.Edits.{text_pushed}
use Rattle.numerals.proofs.Text.push_field.Goals as goal

pub returns : goal.returns
returns g c =
    let w = g.T.Numeral.numeral c.args.n in
    let e = length-append w (c.args.ending ∷ []) in
    text_pushed _ _ _ _ _ _ c.self.view_is c.print_field-self-inside.ensures.content (omega arith) (omega (arith, c.self.invariant, c.self.told)) (omega (arith, c.self.told))
    ∙ sym (append_assoc c.args.self.now w (c.args.ending ∷ []))
