-- Numbers in ASCII digits.
use Rattle.std.specs.Prelude.{ℕ, zero, suc, ◌+◌, ◌-◌, ◌/◌, ◌%◌, cond, List, [], ◌∷◌, ◌++◌, ltb, ℤ, pos, negsuc}

-- the byte of a digit: 0 to 9, then A to F
unfoldable pub digit : ℕ → ℕ
digit d = cond (ltb d 10) (0x30 + d) (0x41 - 10 + d)

-- the last w digits of n to the base b
unfoldable pub digits : ℕ → ℕ → ℕ → List ℕ
digits b zero n = []
digits b (suc w) n = digits b w (n / b) ++ digit (n % b) ∷ []

-- the decimal digits of n with no leading zero, in at most so many steps
unfoldable pub decimal_in : ℕ → ℕ → List ℕ
decimal_in zero n = []
decimal_in (suc k) n =
    let front = decimal_in k (n / 10) in
    cond (ltb n 10) (digit n ∷ []) (front ++ digit (n % 10) ∷ [])

-- n in decimal
unfoldable pub decimal : ℕ → List ℕ
decimal n = decimal_in (suc n) n

-- a whole number in decimal, with a minus sign where it is negative
unfoldable pub integer : ℤ → List ℕ
integer (pos n) = decimal n
integer (negsuc n) = 0x2D ∷ decimal (suc n)

-- 64 bits as 16 hexadecimal digits
abbrev pub hexadecimal : ℕ → List ℕ
hexadecimal bits = digits 16 16 bits
