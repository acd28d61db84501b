-- The whole number nearest to a fraction, with a rule for an exact half.
use Prim.Native.Nat.{ℕ, suc, ◌*◌, ◌/◌, ◌%◌, compare, Ordering}
use Rattle.std.specs.Prelude.{Bool, cond, eqb}

-- the quotient q or the next number, by how twice the remainder compares with the divisor; at an exact half the next where `tie_up` holds
abbrev pub rounded : Bool → ℕ → Ordering → ℕ
rounded tie_up q Ordering.lt = q
rounded tie_up q Ordering.eq = cond tie_up (suc q) q
rounded tie_up q Ordering.gt = suc q

-- n / d to the nearest whole number; an exact half goes up where `tie` holds of the quotient
unfoldable pub nearest_by : (ℕ → Bool) → ℕ → ℕ → ℕ
nearest_by tie n d = rounded (tie (n / d)) (n / d) (compare (n % d * 2) d)

-- the rule by which an exact half goes to the even number: up from an odd quotient
abbrev pub is_odd : ℕ → Bool
is_odd q = eqb (q % 2) 1
