use Rattle.std.proofs.Common.{◌≡◌, ◌++◌, length, drop}
use Rattle.numerals.specs.Numerals.{digits}
use Rattle.numerals.proofs.put_digits.Given as goal

-- the digits still to be put, then those that stand there
abbrev pub invariant-loop-k : goal.invariant-loop-k
invariant-loop-k l = digits l.base l.k l.y ++ drop l.k l.part ≡ digits l.base (length l.initial.part) l.n
