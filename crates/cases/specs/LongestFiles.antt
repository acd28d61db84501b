-- The longest patch files, apart from the small ones of `patch` since they take long to compute.
use Rattle.std.specs.Prelude.{◌≡◌, refl, List, [], ◌∷◌, map}
use Rattle.codec.specs.Bytes.{number, bytes, number_at}
use Rattle.refusal.specs.Outcome.{accepted, refused}
use Rattle.patch.specs.File.{marked, kind_of, outside, overlap, read_grounds, read_outcome, file_outcome}
use Rattle.columns.specs.Columns.{columns_fit}
use Rattle.trailer.specs.Trailer.{trailer_of}
use Rattle.patch.specs.Serializer.{write_grounds, write_outcome}
use Rattle.patch.specs.Cases.{zeros, file, short_file, doubles, shorts, Example, ◌gives◌, WriteExample, write_case, write_says}

-- full of rows, with a row more, with a byte more, and a byte too long without a mark
longest : List Example
longest =
    (file 65520 5460 65536 43696 gives doubles 5460)
    ∷ (file 65520 5461 65536 43704 gives refused 6)
    ∷ (file 65521 5460 65536 43696 gives refused 1)
    ∷ (zeros 65537 gives refused 1)
    -- the same with short floats
    ∷ (short_file 65520 8190 65536 32776 gives shorts 8190)
    ∷ (short_file 65520 8191 65536 32780 gives refused 6)
    ∷ (short_file 65521 8190 65536 32776 gives refused 1)
    ∷ []

computed : map (λ (e : Example). file_outcome e.input) longest ≡ map (λ (e : Example). e.expected) longest
unfolding longest trailer_of number bytes number_at marked kind_of outside overlap read_grounds read_outcome
computed = refl

-- the most rows, in an output with room and in one a byte too short; a row more, where 17 goes before 16, and 9 before both
longest_writes : List WriteExample
longest_writes =
    write_case 21840 43680 65536 (accepted 65536)
    ∷ write_case 21840 43680 65535 (refused 16)
    ∷ write_case 21844 43688 65548 (refused 17)
    ∷ write_case 21844 43688 0 (refused 17)
    ∷ write_case 21844 43680 0 (refused 9)
    ∷ []

longest-writes-computed : map write_says longest_writes ≡ map (λ (w : WriteExample). w.expected) longest_writes
unfolding longest_writes columns_fit write_grounds write_outcome
longest-writes-computed = refl
