-- The outcome of a call: the values of an accepted call, or a refusal's number.
use Rattle.std.specs.Prelude.{ℕ, suc, ◌<◌, ◌≡◌, Bool, true, false, cond, ◌&&◌, ◌||◌, List, [], ◌∷◌, ◌++◌, eqb, leb}
use Rattle.lists.specs.Lists.{any_of}

-- the values of an accepted call, or a refused one's number
pub data Outcome (A : Type 0) : Type 0 where
  accepted : A → Outcome A
  refused : ℕ → Outcome A

-- a line of the table of refusals: the number, and whether its condition holds
pub record Ground : Type 0 where
  pub refusal : ℕ
  pub holds : Bool

-- refusal n, if b holds
abbrev pub ground : ℕ → Bool → Ground
ground n b = record { refusal = n; holds = b }

-- the first ground that holds refuses the call; where none does, it is accepted with x
abbrev pub outcome : {A : Type 0} → List Ground → A → Outcome A
outcome [] x = accepted x
outcome (c ∷ cs) x = cond c.holds (refused c.refusal) (outcome cs x)

-- the condition of the ground with number n; a list without that number has none
abbrev pub condition : ℕ → List Ground → Bool
condition n [] = false
condition n (c ∷ cs) = cond (eqb n c.refusal) c.holds (condition n cs)

-- the condition of n holds, and of no lower number; in a list whose numbers rise n is then the lowest number whose condition holds
abbrev pub IsLowest : ℕ → List Ground → Type 0
IsLowest n gs = (condition n gs ≡ true) × ((m : ℕ) → m < n → condition m gs ≡ false)

-- the grounds' numbers rise, and the first is l or above
abbrev pub rising_from : ℕ → List Ground → Bool
rising_from l [] = true
rising_from l (c ∷ cs) = leb l c.refusal && rising_from (suc c.refusal) cs

-- the outcome is refusal n
unfoldable pub is_refusal : {A : Type 0} → ℕ → Outcome A → Bool
is_refusal n (accepted x) = false
is_refusal n (refused m) = eqb n m

-- one of the grounds has number n
abbrev pub is_ground : ℕ → List Ground → Bool
is_ground n [] = false
is_ground n (c ∷ cs) = eqb n c.refusal || is_ground n cs

-- a ground of number n holds, and none that stands before it does: a card's order of refusals goes before the lowest number
pub record IsFirst (n : ℕ) (gs : List Ground) : Type 0 where
  pub earlier : List Ground
  pub later : List Ground
  pub listed : gs ≡ earlier ++ (ground n true ∷ later)
  pub none-earlier : any_of (λ (c : Ground). c.holds) earlier ≡ false
