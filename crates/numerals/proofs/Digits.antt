-- How many digits a number has, and that they are its last digits. The idea: a number of two digits and more has one more than its tenth part.
use Rattle.std.proofs.Common.{◌≡◌, ℕ, zero, suc, ◌+◌, ◌-◌, ◌*◌, ◌/◌, ◌%◌, ◌^◌, ◌<◌, ◌≤◌, max, Bool, true, false, cond, List, [], ◌∷◌, ◌++◌, length, drop, set, refl, sym, ap, ◌∙◌, append_assoc, add-one, mod-eq_of_lt, length-append, ltb, arith}
use Rattle.std.proofs.Math.Nat.{one-le-pow, pow-suc}
use Rattle.std.proofs.lemmas.Grind.{drop-set_at}
use native.Mathlib.Decide.{dec_le}
use borrow.Author.Tests.{lt-ltb, le-ltb, ltb-false}
use Rattle.numerals.specs.Numerals.{digit, digits, decimal_in, decimal}

pub length_digits : (b w n : ℕ) → length (digits b w n) ≡ w
unfolding digits
length_digits b zero n = refl
length_digits b (suc w) n = length-append (digits b w (n / b)) (digit (n % b) ∷ []) ∙ omega (arith, length_digits b w (n / b))

-- the last digit put in front of those that stand there
pub last_digit_put : (b k n : ℕ) (s : List ℕ) → 0 < k → k ≤ length s
    → digits b (k - 1) (n / b) ++ drop (k - 1) (set s (k - 1) (digit (n % b))) ≡ digits b k n ++ drop k s
unfolding digits
last_digit_put b zero n s h l = absurd (omega arith)
last_digit_put b (suc k) n s h l =
    let e : suc k - 1 ≡ k = omega arith in
    rw (e, drop-set_at s k k (digit (n % b)) refl (omega arith), add-one) (sym (append_assoc (digits b k (n / b)) (digit (n % b) ∷ []) (drop (suc k) s)))

-- enough steps are enough
steps : (j k n : ℕ) → n < j → n < k → decimal_in j n ≡ decimal_in k n
unfolding decimal_in
steps zero k n h g = absurd (omega arith)
steps (suc j) zero n h g = absurd (omega arith)
steps (suc j) (suc k) n h g = go (ltb n 10) (λ e. let l = ltb-false n 10 e in steps j k (n / 10) (omega arith) (omega arith))
  where
    go : (b : Bool) → (b ≡ false → decimal_in j (n / 10) ≡ decimal_in k (n / 10))
        → cond b (digit n ∷ []) (decimal_in j (n / 10) ++ digit (n % 10) ∷ []) ≡ cond b (digit n ∷ []) (decimal_in k (n / 10) ++ digit (n % 10) ∷ [])
    go true f = refl
    go false f = ap (λ (l : List ℕ). l ++ digit (n % 10) ∷ []) (f refl)

pub decimal-one : (n : ℕ) → n < 10 → decimal n ≡ digit n ∷ []
unfolding decimal decimal_in
decimal-one n h = rw (lt-ltb n 10 h)

pub decimal_more : (n : ℕ) → 10 ≤ n → decimal n ≡ decimal (n / 10) ++ digit (n % 10) ∷ []
unfolding decimal decimal_in
decimal_more n h = rw (le-ltb n 10 h) (ap (λ (l : List ℕ). l ++ digit (n % 10) ∷ []) (steps n (suc (n / 10)) (n / 10) (omega arith) (omega arith)))

pub length-one : (n : ℕ) → n < 10 → length (decimal n) ≡ 1
length-one n h = ap length (decimal-one n h)

pub length_more : (n : ℕ) → 10 ≤ n → length (decimal n) ≡ length (decimal (n / 10)) + 1
length_more n h = ap length (decimal_more n h) ∙ length-append (decimal (n / 10)) (digit (n % 10) ∷ [])

-- below 10^k there are at most k digits
pub few_digits : (k n : ℕ) → n < 10 ^ suc k → length (decimal n) ≤ suc k
few_digits zero n h = omega (arith, length-one n h)
few_digits (suc k) n h =
    elim (dec_le 10 n) [
      | yes l ↦ omega (arith, length_more n l, few_digits k (n / 10) (shorter l))
      | no l ↦ omega (arith, length-one n (omega arith))
    ]
  where
    shorter : 10 ≤ n → n / 10 < 10 ^ suc k
    shorter l = let e : n < 10 ^ suc k * 10 = rw pow-suc at h in omega arith

-- from 10^k on there are more than k digits
many_digits : (k n : ℕ) → 10 ^ k ≤ n → suc k ≤ length (decimal n)
many_digits zero n h =
    elim (dec_le 10 n) [
      | yes l ↦ omega (arith, length_more n l)
      | no l ↦ omega (arith, length-one n (omega arith))
    ]
many_digits (suc k) n h =
    let e : 10 ^ k * 10 ≤ n = rw pow-suc at h in
    let l : 10 ≤ n = omega (arith, one-le-pow k 10) in
    omega (arith, length_more n l, many_digits k (n / 10) (omega arith))

-- the logarithm to 10, rounded down, is one less than the number of digits; that of 0 counts as that of 1
pub digits_by_log : (k n : ℕ) → 10 ^ k ≤ max n 1 → max n 1 < 10 * 10 ^ k → k + 1 ≡ length (decimal n)
digits_by_log zero n low high = omega (arith, length-one n (omega arith))
digits_by_log (suc k) n low high =
    let e : 10 ^ k * 10 ≤ max n 1 = rw pow-suc at low in
    let l : 10 ≤ n = omega (arith, one-le-pow k 10) in
    let f : n < 10 ^ suc (suc k) = rw pow-suc (omega arith) in
    omega (arith, many_digits (suc k) n (omega arith), few_digits (suc k) n f)

-- a number's digits are its last ones
last_in : (k n : ℕ) → n < k → digits 10 (length (decimal n)) n ≡ decimal n
unfolding digits
last_in zero n h = absurd (omega arith)
last_in (suc k) n h =
    go (dec_le 10 n) (last_in k (n / 10))
  where
    one : n < 10 → digits 10 (length (decimal n)) n ≡ decimal n
    one l = rw (decimal-one n l, mod-eq_of_lt l)

    more : 10 ≤ n → digits 10 (length (decimal (n / 10))) (n / 10) ≡ decimal (n / 10) → digits 10 (length (decimal n)) n ≡ decimal n
    more l e = rw (length_more n l, decimal_more n l, add-one) (ap (λ (d : List ℕ). d ++ digit (n % 10) ∷ []) e)

    go : Dec (10 ≤ n) → (n / 10 < k → digits 10 (length (decimal (n / 10))) (n / 10) ≡ decimal (n / 10)) → digits 10 (length (decimal n)) n ≡ decimal n
    go (yes l) ih = more l (ih (omega arith))
    go (no l) ih = one (omega arith)

pub last_decimal : (n : ℕ) → digits 10 (length (decimal n)) n ≡ decimal n
last_decimal n = last_in (suc n) n (omega arith)
