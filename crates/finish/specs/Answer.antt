-- The answer of a sum: document 01's number and values for each case.
use Rattle.refusal.specs.Outcome.{Outcome, accepted, refused}
use Rattle.finish.specs.Finish.{RoundedSum}
use Rattle.finish.specs.declared.SectionSum.{SectionSum}
use Rattle.finish.specs.declared.SectionSum.TheVariants.{Finite, Absent, TooLarge, NotSound}

-- a sum's four cases: a finite double with its side, 13, 14 and 7
abbrev pub sum_answer : SectionSum → Outcome RoundedSum
sum_answer (Finite x d) = accepted (record { sum = x; side = d })
sum_answer Absent = refused 13
sum_answer TooLarge = refused 14
sum_answer NotSound = refused 7
