use mathlib.Core.Path.{sym, ◌∙◌}
use native.Mathlib.Omega.{arith}
use lib.ListN.{length}
use Rattle.patch.proofs.WriteOutcome.{write_only}
use Rattle.exports.proofs.girth_write.Goals as goal

-- an accepted file is no longer than 65,536 bytes
pub count_or_minus-requires : goal.count_or_minus-requires
count_or_minus-requires c = λ n e.
    let s = c.args in
    let a = write_only s.keys.now s.values.now (length s.out.now) (sym c.write.ensures.answer ∙ e) in
    omega (arith, a.few_rows, a.length_is_lem)
