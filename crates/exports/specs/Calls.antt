-- What an exported call returns and writes out, by the outcome that its conditions fix.
use Rattle.std.specs.Prelude.{ℕ, Bool, cond, ℤ, pos, neg_ℤ, Float}
use Rattle.std.specs.Float.{binary64}
use Rattle.std.specs.Float.Ieee.{to_bits}
use Rattle.refusal.specs.Outcome.{Outcome, accepted, refused}

-- the number returned: f of the values of an accepted call, minus the refusal's number of a refused one
abbrev pub returned : {A : Type 0} → (A → ℕ) → Outcome A → ℤ
returned f (accepted x) = pos (f x)
returned f (refused r) = neg_ℤ (pos r)

-- a count of an accepted call is returned as it is
abbrev pub returns_count : Outcome ℕ → ℤ
returns_count o = returned (λ n. n) o

-- an accepted call that writes its values out returns 0
abbrev pub returns_zero : {A : Type 0} → Outcome A → ℤ
returns_zero o = returned (λ x. 0) o

-- whether something holds is returned as 1 or 0
abbrev pub returns_flag : Outcome Bool → ℤ
returns_flag o = returned (λ b. cond b 1 0) o

-- what is written out: f of the values of an accepted call, z of a refused one
abbrev pub writes : {A B : Type 0} → B → (A → B) → Outcome A → B
writes z f (accepted x) = f x
writes z f (refused r) = z

-- the 64 bits of a sum
abbrev pub double_bits : Float → ℕ
double_bits x = to_bits binary64 x
