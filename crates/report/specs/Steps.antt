-- The most bytes that each piece of the text takes.
use Rattle.std.specs.Prelude.{ℕ, ◌+◌}
use Rattle.numerals.specs.Steps.{longest_decimal, longest_u64, longest_bits}

-- "refused " and a number
abbrev pub longest_refusal : ℕ
longest_refusal = 8 + longest_decimal

-- section and row count, a space after each
abbrev pub longest_key_and_count : ℕ
longest_key_and_count = longest_decimal + 1 + longest_decimal + 1

-- a side, its minus sign included
abbrev pub longest_side : ℕ
longest_side = 2

-- the sum, and a refusal of any number in place of mill figure and side: no last fields need more room
abbrev pub longest_refused_fields : ℕ
longest_refused_fields = longest_bits + 1 + longest_refusal

-- a line with them: no line needs more
abbrev pub longest_line : ℕ
longest_line = longest_key_and_count + longest_refused_fields + 1

-- "total ", two numbers of 64 bits, the space between them and a line feed
abbrev pub longest_total_line : ℕ
longest_total_line = 6 + longest_u64 + 1 + longest_u64 + 1

-- the whole text
abbrev pub longest_text : ℕ
longest_text = 4096
