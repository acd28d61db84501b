-- What Card 5's law of negation speaks of.
use Rattle.std.specs.Prelude.{ℤ, neg_ℤ}
use Rattle.refusal.specs.Outcome.{Outcome, accepted, refused}
use Rattle.finish.specs.Side.{double_value}
use Rattle.finish.specs.Finish.{RoundedSum}
use Rattle.finish.specs.declared.FinishedLine.{FinishedLine}

-- a number negated; a refusal stays as it is
abbrev pub negated_outcome : Outcome ℤ → Outcome ℤ
negated_outcome (accepted z) = accepted (neg_ℤ z)
negated_outcome (refused n) = refused n

-- the value of a sum, or its refusal; no sum is -0, so that 0 is its own negative
abbrev pub sum_value : Outcome RoundedSum → Outcome ℤ
sum_value (accepted x) = accepted (double_value x.sum)
sum_value (refused n) = refused n

-- the mill figure in a finished line, or its refusal
abbrev pub line_figure : Outcome FinishedLine → Outcome ℤ
line_figure (accepted l) = accepted l.figure
line_figure (refused n) = refused n
