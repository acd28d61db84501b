-- What finishing a section gives: document 01's refusals in the order of their numbers, or the values of an accepted call.
use Rattle.std.specs.Prelude.{ℕ, true, false, not, cond, List, [], ◌∷◌, ◌++◌, ℤ, Float}
use Rattle.std.proofs.Math.Option.{Option, none, some}
use Rattle.refusal.specs.Outcome.{Outcome, refused, Ground, ground, outcome}
use Rattle.record.specs.Sound.{sound}
use Rattle.record.specs.Section.{Section, kept, sections, find}
use Rattle.finish.specs.Sum.{nearest_double, too_large}
use Rattle.finish.specs.Side.{side}
use Rattle.finish.specs.Figure.{mill_figure, beyond}
use Rattle.finish.specs.declared.FinishedLine.{FinishedLine}
pub use Rattle.finish.specs.declared.RoundedSum.{RoundedSum}

-- ---- of a section

-- a section's sum
abbrev pub double_for : Section → Float
double_for s = nearest_double (kept s)

-- a section's sum and its side of the kept value
abbrev pub sum_for : Section → RoundedSum
sum_for s = record { sum = double_for s; side = side (double_for s) (kept s) }

-- a section's mill figure
abbrev pub figure_for : Section → ℤ
figure_for s = mill_figure (double_for s)

-- a section's finished line: section, row count, sum, mill figure and the sum's side
abbrev pub line_for : Section → FinishedLine
line_for s = record { key = s.key; count = s.count; sum = double_for s; figure = figure_for s; side = (sum_for s).side }

-- the condition of a sum: 14
abbrev pub sum_grounds : Section → List Ground
sum_grounds s = ground 14 (too_large (kept s)) ∷ []

-- the conditions of a mill figure and of a finished line, in their order: 14 and 15
abbrev pub figure_grounds : Section → List Ground
figure_grounds s = sum_grounds s ++ ground 15 (beyond (figure_for s)) ∷ []

-- ---- of a section that may be absent

-- 13 where it is absent, else v of it, unless one of its conditions gs holds
abbrev pub finished_by : {A : Type 0} → (Section → List Ground) → (Section → A) → Option Section → Outcome A
finished_by gs v none = refused 13
finished_by gs v (some s) = outcome (gs s) (v s)

-- document 01's sum of a section
abbrev pub sum_of : Option Section → Outcome RoundedSum
sum_of o = finished_by sum_grounds sum_for o

-- its mill figure
abbrev pub figure_of : Option Section → Outcome ℤ
figure_of o = finished_by figure_grounds figure_for o

-- its finished line
abbrev pub line_of : Option Section → Outcome FinishedLine
line_of o = finished_by figure_grounds line_for o

-- 13, and the conditions of the section that is there
abbrev pub found_grounds : (Section → List Ground) → Option Section → List Ground
found_grounds gs none = ground 13 true ∷ []
found_grounds gs (some s) = ground 13 false ∷ gs s

-- ---- of section k in a table of g records in the bytes s

-- 7 where the table is not sound, else what f gives for the section
abbrev pub finishing : {A : Type 0} → (Option Section → Outcome A) → List ℕ → ℕ → ℕ → Outcome A
finishing f s g k = cond (sound s g) (f (find k (sections s g))) (refused 7)

-- document 01's conditions of finishing, in their order: 7, 13 and those of the section
abbrev pub finishing_grounds : (Section → List Ground) → List ℕ → ℕ → ℕ → List Ground
finishing_grounds gs s g k = ground 7 (not (sound s g)) ∷ found_grounds gs (find k (sections s g))

-- the outcome of a sum
abbrev pub sum_outcome : List ℕ → ℕ → ℕ → Outcome RoundedSum
sum_outcome s g k = finishing sum_of s g k

-- the outcome of a mill figure
abbrev pub figure_outcome : List ℕ → ℕ → ℕ → Outcome ℤ
figure_outcome s g k = finishing figure_of s g k

-- the outcome of a finished line
abbrev pub line_outcome : List ℕ → ℕ → ℕ → Outcome FinishedLine
line_outcome s g k = finishing line_of s g k
