-- Numbers of 160 binary digits in four limbs of 40, the lowest first.
use Rattle.std.specs.Prelude.{ℕ, ◌+◌, ◌-◌, ◌*◌, ◌^◌, ◌<◌, ◌≤◌, ◌≡◌, Bool, true, false, List, [], ◌∷◌, get_or}

-- the number that four limbs stand for
abbrev pub value_of : List ℕ → ℕ
value_of a = get_or a 0 0 + 2 ^ 40 * get_or a 1 0 + 2 ^ 80 * get_or a 2 0 + 2 ^ 120 * get_or a 3 0

-- each limb but the last has 40 digits
pub record LowReduced (a : List ℕ) : Type 0 where
  pub limb0 : get_or a 0 0 < 2 ^ 40
  pub limb1 : get_or a 1 0 < 2 ^ 40
  pub limb2 : get_or a 2 0 < 2 ^ 40

-- every limb has 40 digits
pub record Reduced (a : List ℕ) : Type 0 where
  pub low_limbs : LowReduced a
  pub limb3 : get_or a 3 0 < 2 ^ 40

-- r is the number n with 40 digits in each limb but the last, which is at most m
pub record Carried (n m : ℕ) (r : List ℕ) : Type 0 where
  pub same : value_of r ≡ n
  pub low_limbs : LowReduced r
  pub limb3 : get_or r 3 0 ≤ m

-- ---- a difference

-- what is added to a difference of limbs, so that it is not negative: 2^160
abbrev pub difference_bias : ℕ
difference_bias = 2 ^ 120 * 2 ^ 40

-- r is a - b with the bias, and 40 digits in each limb but the last
pub record DifferenceWithBias (a b r : List ℕ) : Type 0 where
  pub biased : value_of r + value_of b ≡ value_of a + difference_bias
  pub low_limbs : LowReduced r

-- the limbs with the bias taken off the last
abbrev pub without_bias : List ℕ → List ℕ
without_bias r = get_or r 0 0 ∷ get_or r 1 0 ∷ get_or r 2 0 ∷ (get_or r 3 0 - 2 ^ 40) ∷ []

-- v is how far p and q are apart, and s says that q is the larger
abbrev pub SignedDifference : Bool → ℕ → ℕ → ℕ → Type 0
SignedDifference false v p q = v + q ≡ p
SignedDifference true v p q = (v + p ≡ q) × (0 < v)

-- ---- a shift

-- r is a shifted left by s digits
pub record ShiftedLeft (a r : List ℕ) (s : ℕ) : Type 0 where
  pub reduced : Reduced r
  pub same : value_of r ≡ value_of a * 2 ^ s
