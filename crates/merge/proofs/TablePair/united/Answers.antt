-- `united` counts the sections from the last one on.
use native.Mathlib.Omega.{arith}
use Rattle.merge.proofs.Counting.{none_counted, one_overflows, one_more, all_counted, no_overflow}
use Rattle.merge.proofs.TablePair.united.Goals as goal

pub loop-both-init : goal.loop-both-init
loop-both-init c = none_counted c.args.self

pub returns-then-taken_count-gt-MOST_ROWS : goal.returns-then-taken_count-gt-MOST_ROWS
returns-then-taken_count-gt-MOST_ROWS c = one_overflows c.loop-both.invariant c.previous-left.ensures (omega (arith, c.taken_count.ensures))

pub loop-both-preserved : goal.loop-both-preserved
loop-both-preserved c = one_more c.loop-both.invariant c.previous-left.ensures (omega (arith, c.taken_count.ensures))

pub returns : goal.returns
returns c = (no_overflow c.loop-both.invariant c.loop-both-test.false, all_counted c.loop-both.invariant c.loop-both-test.false)
