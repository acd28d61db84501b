use mathlib.Core.Path.{sym, ◌∙◌}
use native.Mathlib.Omega.{arith}
use lib.ListN.{length}
use Rattle.checkpoint.proofs.Loading.{load_only}
use Rattle.exports.proofs.girth_load.Goals as goal

-- a file of at most 65,536 bytes has no more than 1,023 groups
pub count_or_minus-requires : goal.count_or_minus-requires
count_or_minus-requires c = λ n e.
    let s = c.args in
    let a = load_only s.file.now (length s.table.now) (sym c.load.ensures.answer ∙ e) in
    omega (arith, a.length_is_lem, a.longest)
