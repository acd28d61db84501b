-- What printing into a lent buffer answers and leaves.
use Rattle.std.specs.Prelude.{ℕ, List, [], ◌∷◌, length}
use Rattle.refusal.specs.Outcome.{Outcome, outcome}
use Rattle.output.specs.Output.{output_ground, output_leaves}

-- printing the text w into the buffer out: the text's length, or 16
abbrev pub print_outcome : List ℕ → List ℕ → Outcome ℕ
print_outcome out w = outcome (output_ground (length out) (length w) ∷ []) (length w)

-- the text at the buffer's front, the bytes after it as they were; a buffer that is too short is untouched
abbrev pub print_leaves : List ℕ → List ℕ → List ℕ
print_leaves out w = output_leaves (print_outcome out w) w out
