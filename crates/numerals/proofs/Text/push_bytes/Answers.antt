-- `numerals::Text::push_bytes`: the text is the front of its memory, and the bytes go there after it.
use Rattle.std.proofs.Common.{arith}
use Rattle.numerals.proofs.Edits.{text_pushed}
use Rattle.numerals.proofs.Text.push_bytes.Goals as goal

pub returns : goal.returns
returns g c = text_pushed _ _ _ _ _ _ c.self.view_is c.print_bytes-self-inside.ensures.content c.print_bytes-self-inside.ensures.end (omega (arith, c.self.invariant, c.self.told)) (omega (arith, c.self.told))
