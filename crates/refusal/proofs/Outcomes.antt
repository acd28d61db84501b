-- What an outcome says of its grounds, each named by its number and not by its place in the list. The idea: a list is refused by its first ground or is decided by
-- the rest, so each law goes by induction on the list, and at each ground by whether it holds.
use Prim.Native.Nat.{ℕ, suc, ◌<◌, ◌≤◌}
use mathlib.Core.Path.{◌≡◌, refl, sym, ap, ◌∙◌}
use mathlib.Core.Bool.{Bool, true, false, cond, ◌&&◌, true≢false}
use mathlib.Core.List.{List, [], ◌∷◌, ◌++◌, append-nil}
use native.Mathlib.Omega.{arith}
use borrow.Author.Tests.{ltb-true, ltb-false, leb-true, eq-eqb, ne_eqb}
use lib.Dec.{eqb, ltb, leb}
use Rattle.lists.specs.Lists.{any_of}
use Rattle.lists.proofs.Booleans.{both_true, both_false}
use Rattle.refusal.specs.Outcome.{accepted, refused, Ground, ground, outcome, condition, IsLowest, rising_from, is_refusal, is_ground, IsFirst}

pub accepted≢refused : {A : Type 0} {x : A} {n : ℕ} → refused n ≡ accepted x → ⊥
accepted≢refused e = let z : ◌≡◌ {A = ℕ} 0 1 = cc in omega arith

-- a list that is accepted begins with a ground that does not hold, and its rest is accepted
first : {A : Type 0} (c : Ground) (cs : List Ground) (x : A) {y : A} → outcome (c ∷ cs) x ≡ accepted y → (c.holds ≡ false) × (outcome cs x ≡ accepted y)
first c cs x {y} e = go c.holds refl e
  where
    go : (b : Bool) → c.holds ≡ b → cond b (refused c.refusal) (outcome cs x) ≡ accepted y → (c.holds ≡ false) × (outcome cs x ≡ accepted y)
    go true h q = absurd (accepted≢refused q)
    go false h q = (h, q)

cond_false : (b : Bool) {h r : Bool} → h ≡ false → r ≡ false → cond b h r ≡ false
cond_false true h r = h
cond_false false h r = r

-- of an accepted call no ground holds
pub accepted_not : {A : Type 0} (n : ℕ) (gs : List Ground) (x : A) {y : A} → outcome gs x ≡ accepted y → condition n gs ≡ false
accepted_not n [] x e = refl
accepted_not n (c ∷ cs) x e = let f = first c cs x e in cond_false (eqb n c.refusal) f.0 (accepted_not n cs x f.1)

-- and it has the value that it was to have
pub accepted-value : {A : Type 0} (gs : List Ground) (x : A) {y : A} → outcome gs x ≡ accepted y → x ≡ y
accepted-value [] x e = cc
accepted-value (c ∷ cs) x e = accepted-value cs x (first c cs x e).1

-- so a number that refusal k bounds is within its bound
pub accepted-within : (k : ℕ) (gs : List Ground) (bound m : ℕ) → condition k gs ≡ ltb bound m → {n : ℕ} → outcome gs m ≡ accepted n → n ≤ bound
accepted-within k gs bound m h e =
    let l = ltb-false bound m (sym h ∙ accepted_not k gs m e) in
    omega (arith, accepted-value gs m e)

-- ---- the number given

-- every ground's number is below m
abbrev pub numbers_below : ℕ → List Ground → Bool
numbers_below m [] = true
numbers_below m (c ∷ cs) = ltb c.refusal m && numbers_below m cs

-- a refusal's number is below m where every ground's is
pub refused-below : {A : Type 0} (m : ℕ) (gs : List Ground) (x : A) {n : ℕ} → numbers_below m gs ≡ true → outcome gs x ≡ refused n → n < m
refused-below m [] x b e = absurd (accepted≢refused (sym e))
refused-below m (c ∷ cs) x {n} b e = let p = both_true (ltb c.refusal m) (numbers_below m cs) b in go c.holds (ltb-true c.refusal m p.0) (refused-below m cs x p.1) e
  where
    go : (h : Bool) → c.refusal < m → (outcome cs x ≡ refused n → n < m) → cond h (refused c.refusal) (outcome cs x) ≡ refused n → n < m
    go true l ih q = let z : c.refusal ≡ n = cc in rw (← z) l
    go false l ih q = ih q

-- a list whose numbers are l or above has no condition below
none_below : (l : ℕ) (gs : List Ground) → rising_from l gs ≡ true → (m : ℕ) → m < l → condition m gs ≡ false
none_below l [] r m h = refl
none_below l (c ∷ cs) r m h =
    let p = both_true (leb l c.refusal) (rising_from (suc c.refusal) cs) r in
    let a = leb-true l c.refusal p.0 in
    rw (ne_eqb m c.refusal (λ e. omega arith)) (none_below (suc c.refusal) cs p.1 m (omega arith))

-- where the grounds' numbers rise, the number given is the lowest whose condition holds
pub lowest : {A : Type 0} (l : ℕ) (gs : List Ground) (x : A) {n : ℕ} → rising_from l gs ≡ true → outcome gs x ≡ refused n → IsLowest n gs
lowest l [] x r e = absurd (accepted≢refused (sym e))
lowest l (c ∷ cs) x {n} r e =
    let p = both_true (leb l c.refusal) (rising_from (suc c.refusal) cs) r in
    go c.holds (none_below (suc c.refusal) cs p.1) (lowest (suc c.refusal) cs x p.1) e
  where
    go : (b : Bool) → ((m : ℕ) → m < suc c.refusal → condition m cs ≡ false) → (outcome cs x ≡ refused n → IsLowest n cs) → cond b (refused c.refusal) (outcome cs x) ≡ refused n
        → IsLowest n (ground c.refusal b ∷ cs)
    go true f ih q =
        let z : n ≡ c.refusal = cc in
        (rw (eq-eqb n c.refusal z), λ m h. rw (ne_eqb m c.refusal (λ y. omega arith)) (f m (omega arith)))
    go false f ih q =
        let i = ih q in
        (rw (ne_eqb n c.refusal (λ z. true≢false (sym i.0 ∙ f n (omega arith)))) i.0, λ m h. cond_false (eqb m c.refusal) refl (i.1 m h))

-- the number given is that of the first ground that holds
pub first_held : {A : Type 0} (gs : List Ground) (x : A) {n : ℕ} → outcome gs x ≡ refused n → IsFirst n gs
unfolding any_of
first_held [] x e = absurd (accepted≢refused (sym e))
first_held (c ∷ cs) x {n} e = go c.holds (first_held cs x) e
  where
    go : (b : Bool) → (outcome cs x ≡ refused n → IsFirst n cs) → cond b (refused c.refusal) (outcome cs x) ≡ refused n → IsFirst n (ground c.refusal b ∷ cs)
    go true ih q = let z : c.refusal ≡ n = cc in record { earlier = []; later = cs; listed = ap (λ (k : ℕ). ground k true ∷ cs) z; none-earlier = refl }
    go false ih q = let i = ih q in record { earlier = ground c.refusal false ∷ i.earlier; later = i.later; listed = ap (λ (l : List Ground). ground c.refusal false ∷ l) i.listed; none-earlier = i.none-earlier }

-- and where a ground is the first that holds, its number is given
pub held_first : {A : Type 0} (gs : List Ground) (x : A) {n : ℕ} → IsFirst n gs → outcome gs x ≡ refused n
unfolding any_of
held_first gs x {n} f = ap (λ (l : List Ground). outcome l x) f.listed ∙ go f.earlier f.none-earlier
  where
    go : (bs : List Ground) → any_of (λ (c : Ground). c.holds) bs ≡ false → outcome (bs ++ (ground n true ∷ f.later)) x ≡ refused n
    go [] e = refl
    go (c ∷ cs) e = let p = both_false c.holds (any_of (λ (c : Ground). c.holds) cs) e in rw p.0 (go cs p.1)

-- ---- further grounds

-- what refuses a call refuses it with further grounds too
pub refused_first : {A B : Type 0} (gs hs : List Ground) (x : A) (y : B) {n : ℕ} → outcome gs x ≡ refused n → outcome (gs ++ hs) y ≡ refused n
refused_first [] hs x y e = absurd (accepted≢refused (sym e))
refused_first (c ∷ cs) hs x y {n} e = go c.holds e (refused_first cs hs x y)
  where
    go : (b : Bool) → cond b (refused c.refusal) (outcome cs x) ≡ refused n → (outcome cs x ≡ refused n → outcome (cs ++ hs) y ≡ refused n)
        → cond b (refused c.refusal) (outcome (cs ++ hs) y) ≡ refused n
    go true q ih = ap refused cc
    go false q ih = ih q

-- and whatever the values would have been
pub refused_alike : {A B : Type 0} (gs : List Ground) (x : A) (y : B) {n : ℕ} → outcome gs x ≡ refused n → outcome gs y ≡ refused n
refused_alike gs x y e = rw (append-nil gs) at (refused_first gs [] x y e)

-- where none of the first holds, the further ones decide
pub accepted_first : {A B : Type 0} (gs hs : List Ground) (x : A) (y : B) {z : A} → outcome gs x ≡ accepted z → outcome (gs ++ hs) y ≡ outcome hs y
accepted_first [] hs x y e = refl
accepted_first (c ∷ cs) hs x y e =
    let f = first c cs x e in
    ap (λ (b : Bool). cond b (refused c.refusal) (outcome (cs ++ hs) y)) f.0 ∙ accepted_first cs hs x y f.1

-- a number that no ground has is not given
pub not_given : {A : Type 0} (n : ℕ) (gs : List Ground) (x : A) → is_ground n gs ≡ false → is_refusal n (outcome gs x) ≡ false
unfolding is_refusal
not_given n [] x e = refl
not_given n (c ∷ cs) x e = let f = both_false (eqb n c.refusal) (is_ground n cs) e in go f.0 (not_given n cs x f.1) c.holds
  where
    go : eqb n c.refusal ≡ false → is_refusal n (outcome cs x) ≡ false → (b : Bool) → is_refusal n (cond b (refused c.refusal) (outcome cs x)) ≡ false
    go h ih true = h
    go h ih false = ih
