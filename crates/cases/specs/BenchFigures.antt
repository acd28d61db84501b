-- B1 to B12: the rows of a section, and what document 01 says of them. Totals run from the top down.
use Rattle.std.specs.Prelude.{ℕ, ◌^◌, List, [], ◌∷◌, map, ℤ, pos, negsuc, neg_ℤ, Float}
use Rattle.std.proofs.Math.Option.{Option, none, some}
use Rattle.std.specs.Float.Ieee as ieee
use Rattle.std.specs.Float.{binary64}
use Rattle.std.specs.Float.Ieee.{of_bits, to_bits}
use Rattle.refusal.specs.Outcome.{Outcome, accepted, refused}
use Rattle.level.specs.Carry.{carry_of, residue_of}
use Rattle.record.specs.Section.{Section, find}
use Rattle.table.specs.Combine.{added}
use Rattle.finish.specs.declared.RoundedSum.{RoundedSum}
use Rattle.finish.specs.Finish.{sum_of, figure_of}

-- a figure of the bench book
pub data BenchFigure : Type 0 where
  -- the top and the three totals
  top_and_totals : ℕ → ℤ → ℤ → ℤ → BenchFigure
  -- the top and the first total
  first_total : ℕ → ℤ → BenchFigure
  -- the first residue and carry
  split : ℕ → ℤ → BenchFigure
  -- the sum's 64 bits, or its refusal
  sum : Outcome ℕ → BenchFigure
  -- the mill figure, or its refusal
  mill : Outcome ℤ → BenchFigure
  -- what left-to-right addition of the doubles gives, as bits
  left_to_right : ℕ → BenchFigure

-- the bits of a section's rows, and a figure of them
pub record Case : Type 0 where
  pub row_bits : List ℕ
  pub bench_figure : BenchFigure

-- ---- what the definitions give

-- the section of these rows after an add to an empty table
unfoldable pub section_added : List ℕ → Option Section
section_added bs = find 1 (added [] (map (λ (b : ℕ). record { key = 1; bits = b }) bs))

-- the bits of an accepted sum
abbrev pub sum_bits : Outcome RoundedSum → Outcome ℕ
sum_bits (accepted x) = accepted (to_bits binary64 x.sum)
sum_bits (refused n) = refused n

-- doubles added from left to right
unfoldable pub added_up : Float → List ℕ → Float
added_up x [] = x
added_up x (b ∷ bs) = added_up (ieee.add binary64 x (of_bits binary64 b)) bs

-- the section, or one without rows where there is none
abbrev pub or_empty : Option Section → Section
or_empty none = record { key = 0; count = 0; top = 0; finest = 2098; high = pos 0; middle = pos 0; low = pos 0 }
or_empty (some s) = s

-- the figure of the same kind that a section has
abbrev pub figure_like : Option Section → List ℕ → BenchFigure → BenchFigure
figure_like o bs (top_and_totals a b c d) = top_and_totals (or_empty o).top (or_empty o).high (or_empty o).middle (or_empty o).low
figure_like o bs (first_total a b) = first_total (or_empty o).top (or_empty o).high
figure_like o bs (split a b) = split (residue_of (or_empty o).high) (carry_of (or_empty o).high)
figure_like o bs (sum a) = sum (sum_bits (sum_of o))
figure_like o bs (mill a) = mill (figure_of o)
figure_like o bs (left_to_right a) = left_to_right (to_bits binary64 (added_up (of_bits binary64 0) bs))

-- the figure that the definitions give for a case's rows
abbrev pub computed_figure : Case → BenchFigure
computed_figure c = figure_like (section_added c.row_bits) c.row_bits c.bench_figure

-- ---- the figures

-- the double 1
abbrev double1 : ℕ
double1 = 0x3FF0000000000000

-- rows by their bits, and a figure of them
abbrev entry : List ℕ → BenchFigure → Case
entry bs f = record { row_bits = bs; bench_figure = f }

-- document 01's figures B1 to B12, each with its rows
abbrev pub bench_figures : List Case
bench_figures =
    -- B1: 1; B2: -1; B3: 31.5; B4: 32; B5: 96
    entry (double1 ∷ []) (top_and_totals 26 (pos (2 ^ 34)) (pos 0) (pos 0))
    ∷ entry (0xBFF0000000000000 ∷ []) (split 1125882726973440 (negsuc 0))
    ∷ entry (0x403F800000000000 ∷ []) (first_total 26 (pos 541165879296))
    ∷ entry (0x4040000000000000 ∷ []) (top_and_totals 27 (pos 0) (pos (2 ^ 39)) (pos 0))
    ∷ entry (0x4058000000000000 ∷ []) (top_and_totals 27 (pos 2) (neg_ℤ (pos (2 ^ 39))) (pos 0))
    -- B6: bits 1, and bits 0000007FFFFFFFFF; B7: bits 0000008000000000
    ∷ entry (0x0000000000000001 ∷ []) (top_and_totals 0 (pos 1) (pos 0) (pos 0))
    ∷ entry (0x0000007FFFFFFFFF ∷ []) (first_total 0 (pos 549755813887))
    ∷ entry (0x0000008000000000 ∷ []) (top_and_totals 1 (pos 0) (pos (2 ^ 39)) (pos 0))
    -- B8: both zeros
    ∷ entry (0x0000000000000000 ∷ 0x8000000000000000 ∷ []) (sum (accepted 0))
    -- B9: in each order, and by left-to-right addition
    ∷ entry (0x3CB0000000000000 ∷ 0x3FEFFFFFFFFFFFFF ∷ 0x3CB0000000000000 ∷ []) (sum (accepted 0x3FF0000000000002))
    ∷ entry (0x3CB0000000000000 ∷ 0x3CB0000000000000 ∷ 0x3FEFFFFFFFFFFFFF ∷ []) (sum (accepted 0x3FF0000000000002))
    ∷ entry (0x3FEFFFFFFFFFFFFF ∷ 0x3CB0000000000000 ∷ 0x3CB0000000000000 ∷ []) (sum (accepted 0x3FF0000000000002))
    ∷ entry (0x3CB0000000000000 ∷ 0x3FEFFFFFFFFFFFFF ∷ 0x3CB0000000000000 ∷ []) (left_to_right 0x3FF0000000000001)
    -- B10: 2^60, 1, -2^60; and 2^-35 for 1
    ∷ entry (0x43B0000000000000 ∷ double1 ∷ 0xC3B0000000000000 ∷ []) (sum (accepted double1))
    ∷ entry (0x43B0000000000000 ∷ 0x3DC0000000000000 ∷ 0xC3B0000000000000 ∷ []) (sum (accepted 0))
    -- B11: the largest double once, and twice
    ∷ entry (0x7FEFFFFFFFFFFFFF ∷ []) (sum (accepted 0x7FEFFFFFFFFFFFFF))
    ∷ entry (0x7FEFFFFFFFFFFFFF ∷ 0x7FEFFFFFFFFFFFFF ∷ []) (sum (refused 14))
    -- B12: 0.125, -0.125 (by Card 5) and 21474836
    ∷ entry (0x3FC0000000000000 ∷ []) (mill (accepted (pos 13)))
    ∷ entry (0xBFC0000000000000 ∷ []) (mill (accepted (neg_ℤ (pos 13))))
    ∷ entry (0x41747AE140000000 ∷ []) (mill (accepted (pos 2147483600)))
    ∷ []
