-- `numerals::put_digits`: each iteration puts one digit in front of those that stand there.
use Rattle.std.proofs.Common.{◌≡◌, arith}
use Rattle.numerals.specs.Numerals.{digits}
use Rattle.numerals.proofs.put_digits.Goals as goal

pub returns : goal.returns
unfolding digits
returns c =
    let done : c.loop-k.k ≡ 0 = omega arith in
    rw done at c.loop-k.invariant
