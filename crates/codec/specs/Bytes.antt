-- Numbers in little-endian bytes, of any width.
use Rattle.std.specs.Prelude.{ℕ, zero, suc, ◌+◌, ◌*◌, ◌/◌, ◌%◌, List, [], ◌∷◌, take, drop}

-- the number that little-endian bytes stand for
unfoldable pub number : List ℕ → ℕ
number [] = 0
number (b ∷ bs) = b + 256 * number bs

-- the w little-endian bytes of x
unfoldable pub bytes : ℕ → ℕ → List ℕ
bytes zero x = []
bytes (suc w) x = x % 256 ∷ bytes w (x / 256)

-- the number in the w bytes of s from at on
unfoldable pub number_at : ℕ → List ℕ → ℕ → ℕ
unfolding number
number_at w s at = number (take w (drop at s))
