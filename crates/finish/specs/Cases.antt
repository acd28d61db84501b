-- Sums, mill figures and lines beside the bench book's, from the definitions: the rows of a section, and what finishing gives. One list each, one claim.
use Rattle.std.specs.Prelude.{ℕ, ◌-◌, ◌*◌, ◌^◌, ◌≡◌, refl, true, false, List, [], ◌∷◌, map, ℤ, pos, neg_ℤ}
use Rattle.std.proofs.Math.Option.{some}
use Rattle.std.specs.Float.{binary64}
use Rattle.std.specs.Float.Ieee.{to_bits, of_bits, round}
use Rattle.refusal.specs.Outcome.{Outcome, accepted, refused}
use Rattle.level.specs.Level.{top, contribution, top_of, total}
use Rattle.codec.specs.Bytes.{bytes, number, number_at}
use Rattle.codec.specs.Cells.{cells, image}
use Rattle.record.specs.Layout.{encode, decode}
use Rattle.record.specs.Keys.{rising}
use Rattle.record.specs.Sound.{sound, sound_records, sound_record, sound_total, is_zero}
use Rattle.record.specs.Section.{Section, section_at_top, section_of, kept, section_bytes, find}
use Rattle.std.specs.declared.cmp.Ordering.{Ordering}
use Rattle.std.specs.declared.cmp.Ordering.TheVariants.{Less, Equal, Greater}
use Rattle.finish.specs.Sum.{nearest_double, limit, too_large}
use Rattle.finish.specs.Side.{side}
use Rattle.finish.specs.Figure.{mill_figure, beyond}
use Rattle.finish.specs.Exact.{answered_exact, exactness_outcome}
use Rattle.finish.specs.Finish.{RoundedSum, sum_of, figure_of, line_outcome}
use Rattle.finish.specs.declared.FinishedLine.{FinishedLine}

-- the sum of the section of these rows
sum_of_rows : List ℕ → Outcome RoundedSum
sum_of_rows bs = sum_of (some (section_of 1 bs))

-- the mill figure of the section of this row
figure_of_row : ℕ → Outcome ℤ
figure_of_row b = figure_of (some (section_of 1 (b ∷ [])))

-- the sum with these bits, on this side of the kept value
sum_with_bits : ℕ → Ordering → Outcome RoundedSum
sum_with_bits b d = accepted (record { sum = of_bits binary64 b; side = d })

-- subnormals; a tie down, up, just passed and just not reached, on either side of 0; a tie at the end of a binade, and just below it; rows that cancel;
-- the bound of 14 and one unit of the lowest level below it, on either side
row_sets : List (List ℕ)
row_sets =
    (1 ∷ 2 ∷ []) ∷ (0x000FFFFFFFFFFFFF ∷ 1 ∷ []) ∷ (0x8000000000000001 ∷ 0x8000000000000002 ∷ [])
    ∷ (0x3FF0000000000000 ∷ 0x3CA0000000000000 ∷ [])
    ∷ (0x3FF0000000000001 ∷ 0x3CA0000000000000 ∷ [])
    ∷ (0x3FF0000000000000 ∷ 0x3CA0000000000000 ∷ 0x39B0000000000000 ∷ [])
    ∷ (0x3FF0000000000001 ∷ 0x3CA0000000000000 ∷ 0xB9B0000000000000 ∷ [])
    ∷ (0xBFF0000000000000 ∷ 0xBCA0000000000000 ∷ [])
    ∷ (0xBFF0000000000001 ∷ 0xBCA0000000000000 ∷ [])
    ∷ (0xBFF0000000000000 ∷ 0xBCA0000000000000 ∷ 0xB9B0000000000000 ∷ [])
    ∷ (0xBFF0000000000001 ∷ 0xBCA0000000000000 ∷ 0x39B0000000000000 ∷ [])
    ∷ (0x3FFFFFFFFFFFFFFF ∷ 0x3CA0000000000000 ∷ []) ∷ (0x3FFFFFFFFFFFFFFF ∷ 0x3CA0000000000000 ∷ 0xB9B0000000000000 ∷ [])
    ∷ (0xBFFFFFFFFFFFFFFF ∷ 0xBCA0000000000000 ∷ []) ∷ (0xBFFFFFFFFFFFFFFF ∷ 0xBCA0000000000000 ∷ 0x39B0000000000000 ∷ [])
    ∷ (0xBFF8000000000000 ∷ 0x3FF8000000000000 ∷ [])
    ∷ (0x7FEFFFFFFFFFFFFF ∷ 0x7C90000000000000 ∷ []) ∷ (0x7FEFFFFFFFFFFFFF ∷ 0x7C8FFFFFFFFFFE00 ∷ [])
    ∷ (0xFFEFFFFFFFFFFFFF ∷ 0xFC90000000000000 ∷ []) ∷ (0xFFEFFFFFFFFFFFFF ∷ 0xFC8FFFFFFFFFFE00 ∷ [])
    ∷ []

-- their sums
sums_of_rows : List (Outcome RoundedSum)
sums_of_rows =
    sum_with_bits 3 Equal ∷ sum_with_bits 0x0010000000000000 Equal ∷ sum_with_bits 0x8000000000000003 Equal
    ∷ sum_with_bits 0x3FF0000000000000 Less ∷ sum_with_bits 0x3FF0000000000002 Greater
    ∷ sum_with_bits 0x3FF0000000000001 Greater ∷ sum_with_bits 0x3FF0000000000001 Less
    ∷ sum_with_bits 0xBFF0000000000000 Greater ∷ sum_with_bits 0xBFF0000000000002 Less
    ∷ sum_with_bits 0xBFF0000000000001 Less ∷ sum_with_bits 0xBFF0000000000001 Greater
    ∷ sum_with_bits 0x4000000000000000 Greater ∷ sum_with_bits 0x3FFFFFFFFFFFFFFF Less
    ∷ sum_with_bits 0xC000000000000000 Less ∷ sum_with_bits 0xBFFFFFFFFFFFFFFF Greater
    ∷ sum_with_bits 0 Equal
    ∷ refused 14 ∷ sum_with_bits 0x7FEFFFFFFFFFFFFF Less
    ∷ refused 14 ∷ sum_with_bits 0xFFEFFFFFFFFFFFFF Greater
    ∷ []

-- 0.375 and 0.625, whose hundredths are exact halves, and their negatives; 1.5; the largest such doubles in range; the doubles on either side of 0.005,
-- of -0.005, of 21474836.475 and of its negative;
-- those nearest to 21474836.47 and its negative; 21474836.5 and its negative; the smallest in size
figure_rows : List ℕ
figure_rows =
    0x3FD8000000000000 ∷ 0xBFD8000000000000 ∷ 0x3FE4000000000000 ∷ 0xBFE4000000000000 ∷ 0x3FF8000000000000
    ∷ 0x41747AE146000000 ∷ 0xC1747AE146000000
    ∷ 0x3F747AE147AE147A ∷ 0x3F747AE147AE147B ∷ 0xBF747AE147AE147A ∷ 0xBF747AE147AE147B
    ∷ 0x41747AE147999999 ∷ 0x41747AE14799999A ∷ 0xC1747AE147999999 ∷ 0xC1747AE14799999A
    ∷ 0x41747AE147851EB8 ∷ 0xC1747AE147851EB8
    ∷ 0x41747AE148000000 ∷ 0xC1747AE148000000
    ∷ 1 ∷ 0x8000000000000001
    ∷ []

-- a figure that is not negative
natural : ℕ → Outcome ℤ
natural n = accepted (pos n)

-- a negative one
negated : ℕ → Outcome ℤ
negated n = accepted (neg_ℤ (pos n))

-- their figures
figures_of_rows : List (Outcome ℤ)
figures_of_rows =
    natural 38 ∷ negated 38 ∷ natural 63 ∷ negated 63 ∷ natural 150
    ∷ natural 2147483638 ∷ negated 2147483638
    ∷ natural 0 ∷ natural 1 ∷ natural 0 ∷ negated 1
    ∷ natural 2147483647 ∷ refused 15 ∷ negated 2147483647 ∷ refused 15
    ∷ natural 2147483647 ∷ negated 2147483647
    ∷ refused 15 ∷ refused 15
    ∷ natural 0 ∷ natural 0
    ∷ []

-- the one claim
cases : (map sum_of_rows row_sets ≡ sums_of_rows) × (map figure_of_row figure_rows ≡ figures_of_rows)
unfolding sum_of_rows figure_of_row row_sets sums_of_rows figure_rows figures_of_rows sum_with_bits natural negated top contribution top_of total section_at_top kept nearest_double too_large side mill_figure beyond round to_bits of_bits
cases = (refl, refl)

-- at the bound of 14, and one unit of 2^-1074 below it
bound : (map too_large (pos limit ∷ pos (limit - 1) ∷ neg_ℤ (pos limit) ∷ neg_ℤ (pos (limit - 1)) ∷ []) ≡ true ∷ false ∷ true ∷ false ∷ [])
    × (nearest_double (pos (limit - 1)) ≡ of_bits binary64 0x7FEFFFFFFFFFFFFF)
unfolding too_large nearest_double round of_bits
bound = (refl, refl)

-- in a table of one record, of section 7 with the row 1.5: its line; a section that is absent; more records than there are bytes; document 01's
-- examples of 13 and 7
one_section : List ℕ
one_section = section_bytes (record { key = 7; count = 1; top = 26; finest = 1073; high = pos (3 * 2 ^ 33); middle = pos 0; low = pos 0 } ∷ [])

-- what finishing gives there
lines : List (Outcome FinishedLine)
lines = line_outcome one_section 1 7 ∷ line_outcome one_section 1 8 ∷ line_outcome one_section 2 7 ∷ line_outcome [] 0 5 ∷ line_outcome [] 1 5 ∷ []

-- and what document 01 says
lines_right : lines ≡ accepted (record { key = 7; count = 1; sum = of_bits binary64 0x3FF8000000000000; figure = pos 150; side = Equal }) ∷ refused 13 ∷ refused 7 ∷ refused 13 ∷ refused 7 ∷ []
unfolding one_section lines find kept nearest_double too_large side mill_figure beyond round to_bits of_bits sound sound_records sound_record sound_total is_zero rising cells image decode encode bytes number_at number
lines_right = refl

-- a section of top t and finest power z
abbrev of_top : ℕ → ℕ → Section
of_top t z = record { key = 1; count = 1; top = t; finest = z; high = pos 0; middle = pos 0; low = pos 0 }

-- exact up to top 2 whatever z is, and above it from 40 × (t - 2) on
exact_from : map answered_exact (of_top 0 0 ∷ of_top 2 0 ∷ of_top 3 39 ∷ of_top 3 40 ∷ of_top 26 959 ∷ of_top 26 960 ∷ of_top 52 1999 ∷ of_top 52 2000 ∷ [])
    ≡ true ∷ true ∷ false ∷ true ∷ false ∷ true ∷ false ∷ true ∷ []
exact_from = refl

-- in the table of one record: 1.5 is exact; a section that is absent; more records than there are bytes, where 7 goes before 13
exactness_right : exactness_outcome one_section 1 7 ∷ exactness_outcome one_section 1 8 ∷ exactness_outcome one_section 2 8 ∷ [] ≡ accepted true ∷ refused 13 ∷ refused 7 ∷ []
unfolding one_section find sound sound_records sound_record sound_total is_zero rising cells image decode encode bytes number_at number
exactness_right = refl
