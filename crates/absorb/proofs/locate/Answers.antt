-- `locate`: a key that stands at the hint stands nowhere else.
use mathlib.Core.Path.{sym, ◌∙◌}
use native.Mathlib.Omega.{arith}
use Rattle.record.specs.Layout.{records}
use Rattle.record.specs.Keys.{record_keys}
use Rattle.record.proofs.Laws.{get_d_keys, length-keys}
use Rattle.record.proofs.Order.{place_of}
use Rattle.absorb.proofs.locate.Goals as goal

pub returns-then-read-key : goal.returns-then-read-key
returns-then-read-key c =
    let t = c.args.t.now in
    place_of c.args.key (record_keys (records t c.args.g)) c.args.hint c.requires.1 (omega (arith, length-keys t c.args.g))
    (get_d_keys t c.args.g c.requires.0 c.args.hint (omega arith) ∙ sym c.read.ensures ∙ c.if-read-key.true)
