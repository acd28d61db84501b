-- Laws of little-endian bytes, for any width. The idea: a field is its first byte and 256 times the field after it, so most go by induction on the width.
use Prim.Native.Nat.{ℕ, zero, suc, ◌+◌, ◌-◌, ◌*◌, ◌/◌, ◌%◌, ◌^◌, ◌<◌, ◌≤◌}
use mathlib.Core.Path.{◌≡◌, refl, sym, ap, ◌∙◌}
use mathlib.Core.List.{List, [], ◌∷◌, ◌++◌, append_assoc}
use native.Mathlib.Nat.{pow-suc, add-suc, suc-add, zero-add, add-zero, le_of_eq, le_refl, one-le-pow}
use native.Mathlib.Omega.{arith}
use lib.Dec.{T, ltb, leb, ltb→lt, lit<}
use lib.Ieee.Fits.{and_l, and_r}
use lib.Pow.{are_bytes}
use borrow.Author.Tests.{le-leb, leb-true}
use mathlib.Core.Bool.{true}
use lib.ListN.{length, get_or, set, take, drop, length-drop, take-append-drop}
use lib.Seq.{sets, sets-eq, length-sets, take_at, drop_at, drop-cons, drop-set-lt, take-set-le, drop-drop, drop-append-le, take-append-le, drop-append-add, take_all, length-take-le, get_or-set_other, set_comm, get_or-drop}
use Rattle.codec.specs.Bytes.{number, bytes, number_at}

pub length-bytes : (w x : ℕ) → length (bytes w x) ≡ w
unfolding bytes
length-bytes zero x = refl
length-bytes (suc w) x = ap suc (length-bytes w _)

-- reading back what was written
pub number-bytes : (w x : ℕ) → x < 256 ^ w → number (bytes w x) ≡ x
unfolding number bytes
number-bytes zero x h = omega arith
number-bytes (suc w) x h =
    let g : x < 256 ^ w * 256 = rw pow-suc at h in
    omega (arith, number-bytes w (x / 256) (omega arith))

-- a field is its first byte and the field after it
pub number_at_cons : (n a : ℕ) (s : List ℕ) → a < length s → number_at (suc n) s a ≡ get_or s a 0 + 256 * number_at n s (suc a)
unfolding number number_at
number_at_cons n a s h = rw (drop-cons s a 0)

pub number_at-none : (a : ℕ) (s : List ℕ) → number_at 0 s a ≡ 0
unfolding number number_at
number_at-none a s = refl

-- a field is its first bytes and the field after them
pub number_at-add : (n m a : ℕ) (s : List ℕ) → a + (n + m) ≤ length s → number_at (n + m) s a ≡ number_at n s a + 256 ^ n * number_at m s (a + n)
number_at-add zero m a s h = rw (zero-add, add-zero) (omega (arith, number_at-none a s))
number_at-add (suc n) m a s h =
    let e : a + suc n ≡ suc a + n = omega arith in
    rw (suc-add, pow-suc, e)
    (omega (arith, number_at_cons (n + m) a s (omega arith), number_at_cons n a s (omega arith), number_at-add n m (suc a) s (omega arith)))

-- a field of a part is a field of the whole
pub number_at-drop : (w a k : ℕ) (s : List ℕ) → number_at w (drop a s) k ≡ number_at w s (a + k)
unfolding number_at
number_at-drop w a k s = rw drop-drop

pub number_at-left : (w k : ℕ) (a b : List ℕ) → leb (k + w) (length a) ≡ true → number_at w (a ++ b) k ≡ number_at w a k
unfolding number_at
number_at-left w k a b e =
    let h = leb-true (k + w) (length a) e in
    ap number (ap (take w) (drop-append-le k a b (omega arith)) ∙ take-append-le w (drop k a) b (rw length-drop (omega arith)))

pub number_at_right : (w k : ℕ) (a b : List ℕ) → leb (length a) k ≡ true → number_at w (a ++ b) k ≡ number_at w b (k - length a)
unfolding number_at
number_at_right w k a b e =
    let h = leb-true (length a) k e in
    let p : k ≡ length a + (k - length a) = omega arith in
    ap (λ (n : ℕ). number (take w (drop n (a ++ b)))) p ∙ ap (λ (l : List ℕ). number (take w l)) (drop-append-add a b (k - length a))

pub number_at-take : (w k n : ℕ) (s : List ℕ) → leb (k + w) n ≡ true → leb n (length s) ≡ true → number_at w (take n s) k ≡ number_at w s k
number_at-take w k n s e h =
    sym (number_at-left w k (take n s) (drop n s) (rw (length-take-le n s (leb-true n (length s) h)) e)) ∙ ap (λ (l : List ℕ). number_at w l k) (take-append-drop n s)

pub number_at-bytes : (w x : ℕ) → x < 256 ^ w → number_at w (bytes w x) 0 ≡ x
unfolding number_at
number_at-bytes w x h = ap number (take_all w (bytes w x) (le_of_eq (length-bytes w x))) ∙ number-bytes w x h

-- what a slice of bytes is known to hold
abbrev pub AreBytes : List ℕ → Type 0
AreBytes s = (i : ℕ) → get_or s i 0 < 256

-- what the library's test finds to be bytes are
pub are_bytes_lem : (s : List ℕ) → T (are_bytes s) → AreBytes s
are_bytes_lem [] t i = lit< tt
are_bytes_lem (b ∷ s) t zero = ltb→lt b 256 (and_l (ltb b 256) (are_bytes s) t)
are_bytes_lem (b ∷ s) t (suc i) = are_bytes_lem s (and_r (ltb b 256) (are_bytes s) t) i

pub take-bytes : (n : ℕ) (s : List ℕ) → AreBytes s → AreBytes (take n s)
take-bytes zero s h i = lit< tt
take-bytes (suc n) [] h i = lit< tt
take-bytes (suc n) (b ∷ s) h zero = h 0
take-bytes (suc n) (b ∷ s) h (suc i) = take-bytes n s (λ j. h (suc j)) i

pub drop-bytes : (n : ℕ) (s : List ℕ) → AreBytes s → AreBytes (drop n s)
drop-bytes n s h i = rw get_or-drop (h (n + i))

number_lt : (n : ℕ) (s : List ℕ) → AreBytes s → number (take n s) < 256 ^ n
unfolding number
number_lt zero s h = lit< tt
number_lt (suc n) [] h = one-le-pow (suc n) 256 (lit< tt)
number_lt (suc n) (b ∷ bs) h = rw pow-suc (omega (arith, h 0, number_lt n bs (λ i. h (suc i))))

pub number_at-lt : (n a : ℕ) (s : List ℕ) → AreBytes s → number_at n s a < 256 ^ n
unfolding number_at
number_at-lt n a s h = number_lt n (drop a s) (drop-bytes a s h)

bytes-number : (w : ℕ) (s : List ℕ) → w ≤ length s → AreBytes s → bytes w (number (take w s)) ≡ take w s
unfolding number bytes
bytes-number zero s l h = refl
bytes-number (suc w) [] l h = absurd (omega arith)
bytes-number (suc w) (b ∷ bs) l h =
    let v = number (take w bs) in
    let q : (b + 256 * v) / 256 ≡ v = omega (arith, h 0) in
    let r : (b + 256 * v) % 256 ≡ b = omega (arith, h 0) in
    rw (q, r) (ap (λ (t : List ℕ). b ∷ t) (bytes-number w bs (omega arith) (λ i. h (suc i))))

-- writing back what was read
pub bytes-number_at : (w a : ℕ) (s : List ℕ) → a + w ≤ length s → AreBytes s → bytes w (number_at w s a) ≡ take w (drop a s)
unfolding number_at
bytes-number_at w a s l h = bytes-number w (drop a s) (rw length-drop (omega arith)) (drop-bytes a s h)

-- a run of stores after another
pub sets-append : (s xs ys : List ℕ) (i : ℕ) → sets (sets s i xs) (i + length xs) ys ≡ sets s i (xs ++ ys)
sets-append s [] ys i = rw add-zero
sets-append s (x ∷ xs) ys i = rw (add-suc, ← suc-add) (sets-append (set s i x) xs ys (suc i))

-- and what is known of it
pub sets_then : (s : List ℕ) {l l' : List ℕ} (i n : ℕ) (xs ys : List ℕ) → l ≡ sets s i xs → length xs ≡ n → l' ≡ sets l (i + n) ys → l' ≡ sets s i (xs ++ ys)
sets_then s i n xs ys e h e' = rw (e', e, ← h) (sets-append s xs ys i)

-- what lies past a run of stores, and before it, is as it was
pub drop-sets : (s xs : List ℕ) (i k : ℕ) → i + length xs ≤ k → drop k (sets s i xs) ≡ drop k s
drop-sets s [] i k h = refl
drop-sets s (x ∷ xs) i k h = drop-sets (set s i x) xs (suc i) k (omega arith) ∙ drop-set-lt k s i x (omega arith)

pub take-sets : (s xs : List ℕ) (i k : ℕ) → k ≤ i → take k (sets s i xs) ≡ take k s
take-sets s [] i k h = refl
take-sets s (x ∷ xs) i k h = take-sets (set s i x) xs (suc i) k (omega arith) ∙ take-set-le k s i x h

pub get_d_sets : (s xs : List ℕ) (i k d : ℕ) → k < i → get_or (sets s i xs) k d ≡ get_or s k d
get_d_sets s [] i k d h = refl
get_d_sets s (x ∷ xs) i k d h = get_d_sets (set s i x) xs (suc i) k d (omega arith) ∙ get_or-set_other s i k x d (omega arith)

-- ---- a field in a buffer, of any width

-- what is written is read back
pub read-written : (w at x : ℕ) (s : List ℕ) → x < 256 ^ w → at + w ≤ length s → number_at w (sets s at (bytes w x)) at ≡ x
unfolding number_at
read-written w at x s h l =
    let n = length-bytes w x in
    let p : at ≤ length s = omega arith in
    ap (λ (t : List ℕ). number (take w (drop at t))) (sets-eq (bytes w x) s at (omega arith) ∙ append_assoc (take at s) (bytes w x) (drop (at + length (bytes w x)) s))
    ∙ ap (λ (t : List ℕ). number (take w t)) (drop_at (take at s) (bytes w x ++ drop (at + length (bytes w x)) s) at (length-take-le at s p))
    ∙ ap number (take_at (bytes w x) (drop (at + length (bytes w x)) s) w n)
    ∙ number-bytes w x h

-- a field before what was written, or past it, is as it was
pub read_before : (v a at : ℕ) (s xs : List ℕ) → a + v ≤ at → at ≤ length s → number_at v (sets s at xs) a ≡ number_at v s a
read_before v a at s xs h l =
    let k = le-leb (a + v) at h in
    sym (number_at-take v a at (sets s at xs) k (le-leb at (length (sets s at xs)) (rw length-sets l)))
    ∙ ap (λ (t : List ℕ). number_at v t a) (take-sets s xs at at (le_refl at))
    ∙ number_at-take v a at s k (le-leb at (length s) l)

pub read_past : (v a at : ℕ) (s xs : List ℕ) → at + length xs ≤ a → number_at v (sets s at xs) a ≡ number_at v s a
unfolding number_at
read_past v a at s xs h = ap (λ (t : List ℕ). number (take v t)) (drop-sets s xs at a h)

-- a store before a run of stores may come first
pub set_sets : (s xs : List ℕ) (i k x : ℕ) → k < i → set (sets s i xs) k x ≡ sets (set s k x) i xs
set_sets s [] i k x h = refl
set_sets s (y ∷ xs) i k x h =
    set_sets (set s i y) xs (suc i) k x (omega arith) ∙ ap (λ (l : List ℕ). sets l (suc i) xs) (set_comm s i k y x (omega arith))

-- the later run of two neighbours may be stored first
pub sets_swap : (s xs ys : List ℕ) (i n : ℕ) → length xs ≡ n → sets (sets s (i + n) ys) i xs ≡ sets s i (xs ++ ys)
sets_swap s [] ys i n e = rw (← e, add-zero)
sets_swap s (x ∷ xs) ys i n e =
    let q : i + n ≡ suc i + length xs = omega arith in
    rw q (ap (λ (l : List ℕ). sets l (suc i) xs) (set_sets s ys (suc i + length xs) i x (omega arith)) ∙ sets_swap (set s i x) xs ys (suc i) (length xs) refl)

-- ---- what follows bytes put in place

-- from where they start
pub drop_stored : (s xs : List ℕ) (i : ℕ) → i + length xs ≤ length s → drop i (sets s i xs) ≡ xs ++ drop (i + length xs) s
drop_stored s xs i h =
    ap (drop i) (sets-eq xs s i h ∙ append_assoc (take i s) xs (drop (i + length xs) s))
    ∙ drop_at (take i s) (xs ++ drop (i + length xs) s) i (length-take-le i s (omega arith))

-- from where they end, or later, where they were put at the front
pub drop_past : (xs s : List ℕ) (a b : ℕ) → length xs ≡ b → b ≤ a → drop a (xs ++ drop b s) ≡ drop a s
drop_past xs s a b h l =
    let p : a ≡ length xs + (a - b) = omega arith in
    let q : b + (a - b) ≡ a = omega arith in
    ap (λ (n : ℕ). drop n (xs ++ drop b s)) p ∙ drop-append-add xs (drop b s) (a - b) ∙ drop-drop (a - b) b s ∙ ap (λ (n : ℕ). drop n s) q
