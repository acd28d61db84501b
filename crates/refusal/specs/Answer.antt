-- What a call's answer says: its value, or the refusal's number.
use Rattle.std.specs.Prelude.{Result, Ok, Err}
use Rattle.refusal.specs.declared.Refusal.{Refusal}
use Rattle.refusal.specs.Number.{number_of}
use Rattle.refusal.specs.Outcome.{Outcome, accepted, refused}

-- an accepted call's value, or the refusal's number
abbrev pub outcome_of : {A : Type 0} → Result A Refusal → Outcome A
outcome_of (Ok x) = accepted x
outcome_of (Err r) = refused (number_of r)
