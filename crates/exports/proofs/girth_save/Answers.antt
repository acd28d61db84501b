use mathlib.Core.Path.{sym, ◌∙◌}
use native.Mathlib.Omega.{arith}
use lib.ListN.{length}
use Rattle.checkpoint.proofs.Saving.{save_only}
use Rattle.exports.proofs.girth_save.Goals as goal

-- the file of a saved table is no longer than 65,488 bytes
pub count_or_minus-requires : goal.count_or_minus-requires
count_or_minus-requires c = λ n e.
    let s = c.args in
    let a = save_only s.table.now s.g (length s.out.now) (sym c.save.ensures.answer ∙ e) in
    omega (arith, a.few_groups, a.length_is_lem)
