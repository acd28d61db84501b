-- Card 7's question: whether a section's kept value is known to be the exact sum of its rows.
use Rattle.std.specs.Prelude.{ℕ, ◌-◌, ◌*◌, Bool, ◌||◌, List, [], leb}
use Rattle.std.proofs.Math.Option.{Option}
use Rattle.refusal.specs.Outcome.{Outcome}
use Rattle.record.specs.Section.{Section}
use Rattle.finish.specs.Finish.{finished_by, finishing}

-- a section is answered exact: its finest power z is at least 40 × (t - 2), or its top t is 2 or less
abbrev pub answered_exact : Section → Bool
answered_exact s = leb (40 * (s.top - 2)) s.finest || leb s.top 2

-- the answer for a section that may be absent: true for exact, false for not known
abbrev pub exactness_of : Option Section → Outcome Bool
exactness_of o = finished_by (λ (s : Section). []) answered_exact o

-- the outcome of the question for section k in a table of g records in the bytes s: 7, 13, or the section's answer
abbrev pub exactness_outcome : List ℕ → ℕ → ℕ → Outcome Bool
exactness_outcome s g k = finishing exactness_of s g k
