-- How many sections and rows a table has.
use Rattle.std.specs.Prelude.{ℕ, ◌+◌, not, List, [], ◌∷◌, length}
use Rattle.refusal.specs.Outcome.{Outcome, Ground, ground, outcome}
use Rattle.record.specs.Sound.{sound}
use Rattle.record.specs.Section.{Section, sections}
use Rattle.totals.specs.declared.TableTotals.{TableTotals}

-- the sections' row counts, added up
unfoldable pub row_total : List Section → ℕ
row_total [] = 0
row_total (t ∷ ts) = t.count + row_total ts

-- the number of sections, and of their rows
abbrev pub table_totals : List Section → TableTotals
table_totals ts = record { groups = length ts; count = row_total ts }

-- the condition on a table of g records in the bytes s: 7
abbrev pub totals_grounds : List ℕ → ℕ → List Ground
totals_grounds s g = ground 7 (not (sound s g)) ∷ []

-- the totals of that table, or 7
abbrev pub totals_outcome : List ℕ → ℕ → Outcome TableTotals
totals_outcome s g = outcome (totals_grounds s g) (table_totals (sections s g))
