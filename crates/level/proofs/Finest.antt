-- The finest power of rows, the largest power of two that they are all multiples of. The idea: a search up to n has one result (`largest_only`), so a
-- number that is shown to be the largest is it: the smaller of two finest powers, and the place of a significand's last digit that is not 0.
use mathlib.Core.Path.{◌≡◌, refl, sym, ap, ◌∙◌}
use mathlib.Core.Bool.{Bool, true, false, cond}
use mathlib.Core.List.{List, [], ◌∷◌, ◌++◌}
use Prim.Native.Nat.{ℕ, zero, suc, ◌+◌, ◌-◌, ◌*◌, ◌/◌, ◌%◌, ◌^◌, ◌≤◌, ◌<◌, min, zero-le}
use native.Mathlib.Nat.{le_antisymm, le_refl, lt_of_lt_of_le, mul-one, mul_assoc, mod-one, mod-eq_of_lt, mul-mod_left, pow-suc, zero-mod, zero-mul}
use native.Mathlib.Decide.{dec_le, dec_lt}
use native.Mathlib.Omega.{arith}
use lib.Arith.{lt-one}
use lib.Count.{count_trailing_zeros, under}
use lib.Dec.{eqb, lit≤}
use lib.ListN.{length, get_or}
use lib.Pow.{pow_pos, pow_mono, mod-mod-pow, mod-pow-add, shl-shr, shl_lt}
use borrow.Author.Tests.{eqb-true, eqb-false, eq-eqb, not-true}
use Rattle.lists.proofs.Booleans.{never, both_true}
use Rattle.lists.proofs.All.{All, all_hold, all_map, all_at}
use Rattle.integers.proofs.Naturals.{pow-sum}
use Rattle.level.specs.Double.{exponent_field, finite_bits, significand, magnitude}
use Rattle.level.specs.Finest.{highest_power, is_multiple, all_multiples, largest_with, finest_of, finest}
use Rattle.level.proofs.Double.{significand-lt}

-- ---- the search
-- v is the largest number up to n that has p
record Largest (p : ℕ → Bool) (n v : ℕ) : Type 0 where
  within : v ≤ n
  has : p v ≡ true
  most : (z : ℕ) → z ≤ n → p z ≡ true → z ≤ v

largest_found : (p : ℕ → Bool) (n : ℕ) → p 0 ≡ true → Largest p n (largest_with p n)
unfolding largest_with
largest_found p zero e = record { within = zero-le; has = e; most = λ z h _. h }
largest_found p (suc n) e = go (p (suc n)) refl (largest_found p n e)
  where
    go : (b : Bool) → p (suc n) ≡ b → Largest p n (largest_with p n) → Largest p (suc n) (cond b (suc n) (largest_with p n))
    go true k l = record { within = le_refl (suc n); has = k; most = λ z h _. h }
    go false k l = record { within = omega (arith, l.within); has = l.has; most = most }
      where
        most : (z : ℕ) → z ≤ suc n → p z ≡ true → z ≤ largest_with p n
        most z h f = elim (dec_le z n) [ yes m ↦ l.most z m f | no m ↦ let q : z ≡ suc n = omega arith in never cc ]

-- no other number is it
largest_only : (p : ℕ → Bool) (n v w : ℕ) → Largest p n v → Largest p n w → v ≡ w
largest_only p n v w a b = le_antisymm (b.most v a.within a.has) (a.most w b.within b.has)

-- ---- multiples of powers of two
multiple_finer : (m y z : ℕ) → z ≤ y → m % 2 ^ y ≡ 0 → m % 2 ^ z ≡ 0
multiple_finer m y z h e =
    let k : y - z + z ≡ y = omega arith in
    sym (mod-mod-pow m (y - z) z) ∙ rw (k, e) (zero-mod (2 ^ z))

-- a number that is not 0 is no multiple of a power above it
multiple_lt : (m d z : ℕ) → 0 < m → m < 2 ^ d → m % 2 ^ z ≡ 0 → z < d
multiple_lt m d z p h e =
    elim (dec_lt z d) [
      | yes l ↦ l
      | no k ↦ absurd (let f = mod-eq_of_lt (lt_of_lt_of_le h (pow_mono {i = d} {j = z} (omega arith))) in omega arith)
    ]

-- an odd number times a power is a multiple of no larger power
odd_multiple : (q w z : ℕ) → q % 2 ≡ 1 → q * 2 ^ w % 2 ^ z ≡ 0 → z ≤ w
odd_multiple q w z o e =
    elim (dec_le z w) [
      | yes l ↦ l
      | no k ↦ absurd (
          let f = rw (shl-shr q w, o) at (mod-pow-add (q * 2 ^ w) 1 w) in
          let g = multiple_finer (q * 2 ^ w) z (1 + w) (omega arith) e in
          omega (arith, pow_pos w))
    ]

-- a number of d digits that is not 0 is an odd number times the power that its trailing zeros count
trailing_odd : (d n : ℕ) → 0 < n → n < 2 ^ d → (q : ℕ) × (q % 2 ≡ 1) × (q * 2 ^ count_trailing_zeros d n ≡ n)
unfolding count_trailing_zeros
trailing_odd zero n p h = absurd (omega arith)
trailing_odd (suc d) n p h = go (n % 2) refl (trailing_odd d (n / 2))
  where
    go : (r : ℕ) → n % 2 ≡ r → (0 < n / 2 → n / 2 < 2 ^ d → (q : ℕ) × (q % 2 ≡ 1) × (q * 2 ^ count_trailing_zeros d (n / 2) ≡ n / 2))
        → (q : ℕ) × (q % 2 ≡ 1) × (q * 2 ^ under r (count_trailing_zeros d (n / 2)) ≡ n)
    go zero e ih =
        let s = ih (omega arith) (omega arith) in
        (s.0, s.1, ap (λ (x : ℕ). s.0 * x) (pow-suc 2 (count_trailing_zeros d (n / 2))) ∙ omega (arith, s.2))
    go (suc r) e ih = (n, omega arith, mul-one n)

-- ---- rows
-- every row is a multiple of 2^z, as a fact of each
abbrev pub Multiples : ℕ → List ℕ → Type 0
Multiples z bs = All (λ (b : ℕ). magnitude b % 2 ^ z ≡ 0) bs

multiples_each : (z : ℕ) (bs : List ℕ) → all_multiples z bs ≡ true → Multiples z bs
unfolding all_multiples
multiples_each z [] e = tt
multiples_each z (b ∷ bs) e =
    let both = both_true (is_multiple z b) (all_multiples z bs) e in
    (eqb-true (magnitude b % 2 ^ z) 0 both.0, multiples_each z bs both.1)

multiples_all : (z : ℕ) (bs : List ℕ) → Multiples z bs → all_multiples z bs ≡ true
unfolding all_multiples
multiples_all z [] a = refl
multiples_all z (b ∷ bs) a = rw (eq-eqb (magnitude b % 2 ^ z) 0 a.0) (multiples_all z bs a.1)

-- v is the largest number up to 2,098 such that every row is a multiple of 2^v
abbrev IsFinest : List ℕ → ℕ → Type 0
IsFinest bs v = Largest (λ (z : ℕ). all_multiples z bs) highest_power v

-- the finest power is it
finest_found : (bs : List ℕ) → IsFinest bs (finest_of bs)
unfolding finest_of
finest_found bs =
    largest_found (λ (z : ℕ). all_multiples z bs) highest_power (multiples_all 0 bs (all_hold (λ (b : ℕ). magnitude b % 1 ≡ 0) (λ b. mod-one (magnitude b)) bs))

finest_is : (bs : List ℕ) (v : ℕ) → IsFinest bs v → finest_of bs ≡ v
finest_is bs v = largest_only (λ (z : ℕ). all_multiples z bs) highest_power (finest_of bs) v (finest_found bs)

pub finest_of-le : (bs : List ℕ) → finest_of bs ≤ highest_power
finest_of-le bs = (finest_found bs).within

-- every row is a whole multiple of it
finest_multiples : (bs : List ℕ) → all_multiples (finest_of bs) bs ≡ true
finest_multiples bs = (finest_found bs).has

-- and of no larger power
finest-largest : (bs : List ℕ) (z : ℕ) → z ≤ highest_power → all_multiples z bs ≡ true → z ≤ finest_of bs
finest-largest bs = (finest_found bs).most

-- but of every smaller one
pub multiples_upto : (bs : List ℕ) (z : ℕ) → z ≤ finest_of bs → Multiples z bs
multiples_upto bs z h =
    all_map (λ (b : ℕ). magnitude b % 2 ^ finest_of bs ≡ 0) (λ (b : ℕ). magnitude b % 2 ^ z ≡ 0) (λ b. multiple_finer (magnitude b) (finest_of bs) z h) bs
    (multiples_each (finest_of bs) bs (finest_multiples bs))

-- ---- more rows
finest_cons : (b : ℕ) (bs : List ℕ) → finest_of (b ∷ bs) ≡ min (finest b) (finest_of bs)
finest_cons b bs = finest_is (b ∷ bs) m (record { within = omega (arith, finest_of-le bs); has = has; most = most })
  where
    m : ℕ
    m = min (finest b) (finest_of bs)

    has : all_multiples m (b ∷ bs) ≡ true
    has = multiples_all m (b ∷ bs) ((multiples_upto (b ∷ []) m (omega arith)).0, multiples_upto bs m (omega arith))

    most : (z : ℕ) → z ≤ highest_power → all_multiples z (b ∷ bs) ≡ true → z ≤ m
    most z h e =
        let a = multiples_each z (b ∷ bs) e in
        omega (arith, finest-largest (b ∷ []) z h (multiples_all z (b ∷ []) (a.0, tt)), finest-largest bs z h (multiples_all z bs a.1))

-- ---- rows by their places
module _ (z : ℕ) where
  multiples_at : (bs : List ℕ) → ((i : ℕ) → i < length bs → magnitude (get_or bs i 0) % 2 ^ z ≡ 0) → Multiples z bs
  multiples_at [] h = tt
  multiples_at (b ∷ bs) h = (h 0 (omega arith), multiples_at bs (λ i l. h (suc i) (omega arith)))

module _ (bs : List ℕ) where
  pub finest_whole : (i : ℕ) → i < length bs → magnitude (get_or bs i 0) % 2 ^ finest_of bs ≡ 0
  finest_whole i l = all_at (λ (b : ℕ). magnitude b % 2 ^ finest_of bs ≡ 0) bs i 0 l (multiples_upto bs (finest_of bs) (le_refl (finest_of bs)))

  at_most : (z : ℕ) → z ≤ highest_power → ((i : ℕ) → i < length bs → magnitude (get_or bs i 0) % 2 ^ z ≡ 0) → z ≤ finest_of bs
  at_most z l h = finest-largest bs z l (multiples_all z bs (multiples_at z bs h))

  -- rows that are all zero, or none
  pub finest_of_zeros : ((i : ℕ) → i < length bs → magnitude (get_or bs i 0) ≡ 0) → finest_of bs ≡ highest_power
  finest_of_zeros h = le_antisymm (finest_of-le bs) (at_most highest_power (le_refl highest_power) (λ i l. rw (h i l) (zero-mod (2 ^ highest_power))))

  -- a finite row that is not zero is below 2^2098
  module _ (i : ℕ) (l : i < length bs) (f : finite_bits (get_or bs i 0) ≡ true) (p : 0 < magnitude (get_or bs i 0)) where
    power-lt : (z : ℕ) → magnitude (get_or bs i 0) % 2 ^ z ≡ 0 → z < highest_power
    power-lt z =
        let b = get_or bs i 0 in
        let e = eqb-false (exponent_field b) 2047 (not-true (eqb (exponent_field b) 2047) f) in
        multiple_lt (magnitude b) highest_power z p (lt_of_lt_of_le (shl_lt 53 (exponent_field b - 1) (significand-lt b)) (pow_mono {j = highest_power} (omega arith)))

    pub finest_of_others : finest_of bs < highest_power
    finest_of_others = power-lt (finest_of bs) (finest_whole i l)

    -- so that no larger power at all divides every row
    pub finest_most : (z : ℕ) → ((j : ℕ) → j < length bs → magnitude (get_or bs j 0) % 2 ^ z ≡ 0) → z ≤ finest_of bs
    finest_most z h = let k = power-lt z (h i l) in at_most z (omega arith) h

pub finest_of-append : (bs cs : List ℕ) → finest_of (bs ++ cs) ≡ min (finest_of bs) (finest_of cs)
finest_of-append [] cs = omega (arith, finest_of-le cs, finest_of_zeros [] (λ i l. absurd (omega arith)))
finest_of-append (b ∷ bs) cs = omega (arith, finest_cons b bs, finest_cons b (bs ++ cs), finest_of-append bs cs)

-- ---- one row: the place of its significand's last digit that is not 0
pub finest-zero : (b : ℕ) → significand b ≡ 0 → finest b ≡ highest_power
finest-zero b e = finest_of_zeros (b ∷ []) (λ i l. rw (lt-one l, e) (zero-mul (2 ^ (exponent_field b - 1))))

finest_of_odd : (b q t : ℕ) → q % 2 ≡ 1 → q * 2 ^ t ≡ significand b → 0 < significand b → finest b ≡ exponent_field b - 1 + t
finest_of_odd b q t odd e p = finest_is (b ∷ []) place (record { within = within; has = has; most = most })
  where
    place : ℕ
    place = exponent_field b - 1 + t

    size : magnitude b ≡ q * 2 ^ place
    size = rw (← e, mul_assoc, pow-sum t (exponent_field b - 1) place (omega arith)) refl

    within : place ≤ highest_power
    within = let h = multiple_lt (significand b) 53 t p (significand-lt b) (rw (← e) (mul-mod_left q (2 ^ t))) in omega arith

    has : all_multiples place (b ∷ []) ≡ true
    has = multiples_all place (b ∷ []) (rw size (mul-mod_left q (2 ^ place)), tt)

    most : (z : ℕ) → z ≤ highest_power → all_multiples z (b ∷ []) ≡ true → z ≤ place
    most z h f = odd_multiple q place z odd (rw size at (multiples_each z (b ∷ []) f).0)

pub finest_trailing : (b : ℕ) → 0 < significand b → finest b ≡ exponent_field b - 1 + count_trailing_zeros 64 (significand b)
finest_trailing b p =
    let s = trailing_odd 64 (significand b) p (lt_of_lt_of_le (significand-lt b) (lit≤ tt)) in
    finest_of_odd b s.0 (count_trailing_zeros 64 (significand b)) s.1 s.2 p
