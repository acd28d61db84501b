-- Tops by the exponent field, and the test of a constant table of them.
use Rattle.std.specs.Prelude.{◌≡◌, Bool, ℕ, suc, ◌+◌, ◌/◌, eqb}
use Rattle.level.specs.Double.{exponent_field}
use Rattle.level.specs.Level.{top}

-- t is the top of every row with the exponent field e
abbrev pub TopOfField : ℕ → ℕ → Type 0
TopOfField e t = (b : ℕ) → exponent_field b ≡ e → t ≡ top b

-- the formula for the top of the rows with an exponent field that is not 0
abbrev pub top_formula : ℕ → ℕ
top_formula e = (e + 52) / 40

-- t, as the entry i, is what the formula gives for the field i + 1
abbrev pub by_formula : ℕ → ℕ → Bool
by_formula i t = eqb t (top_formula (suc i))
