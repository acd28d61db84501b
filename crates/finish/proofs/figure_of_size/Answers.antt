use Rattle.finish.proofs.Hundredths.{figure_too_large, figure-plus, figure-minus}
use Rattle.finish.proofs.figure_of_size.Goals as goal

-- A size that i32 has no room for
-- is beyond the largest figure.
pub returns-in_default : goal.returns-in_default
returns-in_default c = let e = c.in_default.ensures in figure_too_large c.args.negative c.args.n e

pub returns-then-negative : goal.returns-then-negative
returns-then-negative c =
    let e = c.in-Ok.ensures in
    figure-minus c.args.negative c.args.n c.in-Ok.size e.0 e.1 c.if-negative.true

pub returns-else-negative : goal.returns-else-negative
returns-else-negative c =
    let e = c.in-Ok.ensures in
    figure-plus c.args.negative c.args.n c.in-Ok.size e.0 e.1 c.if-negative.false
