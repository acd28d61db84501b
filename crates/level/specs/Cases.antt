-- Worked examples beside the bench book's, from the definitions: one list, one claim. Both zeros; 160 and -160, halves that go to the even number; a row that
-- needs all three levels; 0.1; the largest row of top 26; the largest double and the pattern of infinity.
use Rattle.std.specs.Prelude.{◌≡◌, refl, List, [], ◌∷◌, map, ℕ, ◌^◌, ℤ, pos, neg_ℤ}
use Rattle.level.specs.Level.{top, contribution}
use Rattle.level.specs.Finest.{finest_of, finest}
use Rattle.level.specs.Contributions.{contributions_of}
use Rattle.level.specs.declared.Contributions.{Contributions}

-- the rows, by their bits
example_rows : List ℕ
example_rows =
    0 ∷ 0x8000000000000000 ∷ 0x4064000000000000 ∷ 0xC064000000000000 ∷ 0x3DC0000000000001 ∷ 0x3FB999999999999A ∷ 0x403FFFFFFFFFFFFF
    ∷ 0x7FEFFFFFFFFFFFFF ∷ 0x7FF0000000000000 ∷ []

-- a row's top and its three contributions
abbrev three_levels : ℕ → ℤ → ℤ → ℤ → Contributions
three_levels t h m l = record { top = t; high = h; middle = m; low = l }

-- what each of them gives
expected : List Contributions
expected =
    three_levels 0 (pos 0) (pos 0) (pos 0)
    ∷ three_levels 0 (pos 0) (pos 0) (pos 0)
    ∷ three_levels 27 (pos 2) (pos (2 ^ 39)) (pos 0)
    ∷ three_levels 27 (neg_ℤ (pos 2)) (neg_ℤ (pos (2 ^ 39))) (pos 0)
    ∷ three_levels 26 (pos 1) (neg_ℤ (pos (2 ^ 39))) (pos (2 ^ 27))
    ∷ three_levels 26 (pos 1717986918) (pos 439804755968) (pos 0)
    ∷ three_levels 26 (pos (2 ^ 39)) (neg_ℤ (pos (2 ^ 26))) (pos 0)
    ∷ three_levels 52 (pos (2 ^ 18)) (neg_ℤ (pos 32)) (pos 0)
    ∷ three_levels 52 (pos (2 ^ 18)) (pos 0) (pos 0)
    ∷ []

computed : map contributions_of example_rows ≡ expected
unfolding example_rows expected top contribution
computed = refl

-- the finest powers of the same rows, and of all of them together
finest-computed : (map finest example_rows ≡ 2098 ∷ 2098 ∷ 1079 ∷ 1079 ∷ 987 ∷ 1019 ∷ 1026 ∷ 2045 ∷ 2098 ∷ []) × (finest_of example_rows ≡ 987)
unfolding example_rows finest_of
finest-computed = (refl, refl)
