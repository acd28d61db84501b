-- A call that is lent a buffer for its output alone: what its answer says, when the buffer is too short, and what it holds afterwards.
use Rattle.std.specs.Prelude.{ℕ, List, ◌++◌, ltb, length, drop}
use Rattle.refusal.specs.Outcome.{Outcome, accepted, refused, Ground, ground}

-- refusal 16: the output has out_len bytes, and n are to be written
abbrev pub output_ground : ℕ → ℕ → Ground
output_ground out_len n = ground 16 (ltb out_len n)

-- the buffer out after a call that was to write w: w and then the bytes that were there, or untouched when refused
abbrev pub output_leaves : Outcome ℕ → List ℕ → List ℕ → List ℕ
output_leaves (accepted n) w out = w ++ drop (length w) out
output_leaves (refused r) w out = out
