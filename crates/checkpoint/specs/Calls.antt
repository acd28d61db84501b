-- Saving a table and loading one: the outcome by Card 4's conditions, and the bytes that the call leaves.
use Rattle.std.specs.Prelude.{ℕ, ◌*◌, not, List, [], ◌∷◌, ◌++◌, ltb, length, take}
use Rattle.refusal.specs.Outcome.{Outcome, Ground, ground, outcome}
use Rattle.output.specs.Output.{output_ground, output_leaves}
use Rattle.trailer.specs.Trailer.{ends_in, length_grounds}
use Rattle.record.specs.Sound.{sound}
use Rattle.checkpoint.specs.Saved.{table_mark, saved_length, saved_table, group_count, wrong_layout}

-- ---- saving the table of g records in the bytes s to an output of out_len bytes

-- the most groups of a saved table
abbrev pub most_file_groups : ℕ
most_file_groups = 1023

-- the conditions of refusals 7, 18 and 16, in Card 4's order
unfoldable pub save_grounds : List ℕ → ℕ → ℕ → List Ground
save_grounds s g out_len =
    ground 7 (not (sound s g))
    ∷ ground 18 (ltb most_file_groups g)
    ∷ output_ground out_len (saved_length g)
    ∷ []

-- an accepted call gives the file's length
unfoldable pub save_outcome : List ℕ → ℕ → ℕ → Outcome ℕ
save_outcome s g out_len = outcome (save_grounds s g out_len) (saved_length g)

-- the output after the call: the file and then the bytes that were there, or untouched when refused
unfoldable pub save_leaves : List ℕ → ℕ → List ℕ → List ℕ
save_leaves s g out = output_leaves (save_outcome s g (length out)) (saved_table s g) out

-- ---- loading the file f into a table of table_len bytes

-- the conditions of refusals 1, 2, 3, 19, 16 and 7, in Card 4's order; 7: the file, taken as the bytes of a table of g records, is not sound
unfoldable pub load_grounds : List ℕ → ℕ → List Ground
load_grounds f table_len =
    length_grounds f
    ++ ground 3 (not (ends_in table_mark f))
    ∷ ground 19 (wrong_layout f)
    ∷ output_ground table_len (64 * group_count f)
    ∷ ground 7 (not (sound f (group_count f)))
    ∷ []

-- an accepted call gives the group count
unfoldable pub load_outcome : List ℕ → ℕ → Outcome ℕ
load_outcome f table_len = outcome (load_grounds f table_len) (group_count f)

-- the bytes t of the table after the call: the records and then the bytes that were there, or untouched when refused
unfoldable pub load_leaves : List ℕ → List ℕ → List ℕ
load_leaves f t = output_leaves (load_outcome f (length t)) (take (64 * group_count f) f) t
