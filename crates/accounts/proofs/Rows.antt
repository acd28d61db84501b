-- Rows taken out of a list, one occurrence each, and patches taken out of a list of them. The idea: all is read off how often each row occurs. A row taken out occurs
-- once less and every other as often, so rows that lack none of a patch are the patch and what is left; and the rows of all patches are counted patch by patch.
use Prim.Native.Nat.{ℕ, suc, ◌+◌, ◌-◌, ◌≤◌, ◌<◌}
use mathlib.Core.Path.{◌≡◌, refl, sym, ◌∙◌, ap, ap₂}
use mathlib.Core.Bool.{Bool, true, false, cond, ◌||◌, true≢false}
use mathlib.Core.List.{List, [], ◌∷◌, ◌++◌}
use native.Mathlib.Omega.{arith}
use native.Mathlib.Decide.{dec_le}
use borrow.Author.Tests.{ltb-false, le-ltb, eqb-true}
use lib.Dec.{ltb, eqb}
use Rattle.lists.specs.Lists.{any_of}
use Rattle.lists.proofs.All.{All, all_map}
use Rattle.lists.proofs.Any.{any_false, any_never}
use Rattle.lists.proofs.Booleans.{both_true}
use Rattle.columns.specs.Columns.{Row}
use Rattle.history.specs.Rows.{equal_rows, occurs, SameRows}
use Rattle.history.proofs.Order.{dec_row, occurs_is, occurs_not, equal_is, equal_not}
use Rattle.accounts.specs.Accounts.{take_one, take_out, lacking, equal_patches, take_patch, patch_rows}

occurs-none : (r : Row) → occurs r [] ≡ 0
unfolding occurs
occurs-none r = refl

pub occurs-append : (r : Row) (xs ys : List Row) → occurs r (xs ++ ys) ≡ occurs r xs + occurs r ys
unfolding occurs
occurs-append r [] ys = omega arith
occurs-append r (x ∷ xs) ys = omega (arith, occurs-append r xs ys)

take_is : (r s : Row) (ss : List Row) → r ≡ s → take_one r (s ∷ ss) ≡ ss
unfolding take_one
take_is r s ss e = rw (equal_is r s e)

take_not : (r s : Row) (ss : List Row) → (r ≡ s → ⊥) → take_one r (s ∷ ss) ≡ s ∷ take_one r ss
unfolding take_one
take_not r s ss e = rw (equal_not r s e)

-- a row taken out of some rows occurs once less there
take_same : (r : Row) (ss : List Row) → occurs r (take_one r ss) ≡ occurs r ss - 1
unfolding take_one
take_same r [] = rw (occurs-none r)
take_same r (s ∷ ss) = go (dec_row r s) (take_same r ss)
  where
    go : Dec (r ≡ s) → occurs r (take_one r ss) ≡ occurs r ss - 1 → occurs r (take_one r (s ∷ ss)) ≡ occurs r (s ∷ ss) - 1
    go (yes e) ih = rw (take_is r s ss e, occurs_is r s ss e) (omega arith)
    go (no e) ih = rw (take_not r s ss e, occurs_not r s (take_one r ss) e, occurs_not r s ss e) ih

-- and any other row as often as before
take-other : (q r : Row) (ss : List Row) → (q ≡ r → ⊥) → occurs q (take_one r ss) ≡ occurs q ss
unfolding take_one
take-other q r [] h = refl
take-other q r (s ∷ ss) h = go (dec_row r s) (dec_row q s) (take-other q r ss h)
  where
    go : Dec (r ≡ s) → Dec (q ≡ s) → occurs q (take_one r ss) ≡ occurs q ss → occurs q (take_one r (s ∷ ss)) ≡ occurs q (s ∷ ss)
    go (yes e) d ih = rw (take_is r s ss e, occurs_not q s ss (λ f. h (f ∙ sym e)))
    go (no e) (yes d) ih = rw (take_not r s ss e, occurs_is q s (take_one r ss) d, occurs_is q s ss d) (ap suc ih)
    go (no e) (no d) ih = rw (take_not r s ss e, occurs_not q s (take_one r ss) d, occurs_not q s ss d) ih

-- what a row's occurrences are after a patch was taken out
pub occurs-take_out : (q : Row) (gone rows : List Row) → occurs q (take_out gone rows) ≡ occurs q rows - occurs q gone
unfolding take_out
occurs-take_out q [] rows = rw (occurs-none q) (omega arith)
occurs-take_out q (r ∷ rs) rows = go (dec_row q r) (occurs-take_out q rs (take_one r rows))
  where
    go : Dec (q ≡ r) → occurs q (take_out rs (take_one r rows)) ≡ occurs q (take_one r rows) - occurs q rs
        → occurs q (take_out rs (take_one r rows)) ≡ occurs q rows - occurs q (r ∷ rs)
    go (yes e) ih =
        ih ∙ rw (← e, take_same q rows, occurs_is q q rs refl) (omega arith)
    go (no e) ih = ih ∙ rw (take-other q r rows e, occurs_not q r rs e)

-- a row that occurs is one of the list
occurs_all_lem : (P : Row → Type 0) (q : Row) (rs : List Row) → All P rs → 0 < occurs q rs → P q
occurs_all_lem P q [] a h = absurd (omega (arith, occurs-none q))
occurs_all_lem P q (r ∷ rs) a h = go (dec_row q r) (occurs_all_lem P q rs a.1)
  where
    go : Dec (q ≡ r) → (0 < occurs q rs → P q) → P q
    go (yes e) ih = rw e a.0
    go (no e) ih = ih (omega (arith, occurs_not q r rs e))

-- where the rows lack none of the patch's, they are the patch's and those that are left
pub taken-same : (gone rows : List Row) → lacking gone rows ≡ false → SameRows rows (gone ++ take_out gone rows)
unfolding lacking
taken-same gone rows e = record { counts = λ q. omega (arith, occurs-append q gone (take_out gone rows), occurs-take_out q gone rows, enough q (dec_le 1 (occurs q gone))) }
  where
    enough : (q : Row) → Dec (1 ≤ occurs q gone) → occurs q gone ≤ occurs q rows
    enough q (yes h) =
        occurs_all_lem (λ (r : Row). occurs r gone ≤ occurs r rows) q gone
        (all_map (λ (r : Row). ltb (occurs r rows) (occurs r gone) ≡ false) (λ (r : Row). occurs r gone ≤ occurs r rows) (λ r f. ltb-false (occurs r rows) (occurs r gone) f) gone
        (any_false (λ (r : Row). ltb (occurs r rows) (occurs r gone)) gone e)) h
    enough q (no h) = omega arith

-- ---- patches
-- rows that have each row at least as often as the patch lack none of it
pub lacks_none : (gone rows : List Row) → ((q : Row) → occurs q gone ≤ occurs q rows) → lacking gone rows ≡ false
unfolding lacking
lacks_none gone rows h = any_never (λ (r : Row). ltb (occurs r rows) (occurs r gone)) (λ r. le-ltb (occurs r rows) (occurs r gone) (h r)) gone

-- how often a row stands in all patches
unfoldable pub occurs_all : Row → List (List Row) → ℕ
occurs_all q [] = 0
occurs_all q (p ∷ ps) = occurs q p + occurs_all q ps

pub occurs_all_append : (q : Row) (ps qs : List (List Row)) → occurs_all q (ps ++ qs) ≡ occurs_all q ps + occurs_all q qs
unfolding occurs_all
occurs_all_append q [] qs = omega arith
occurs_all_append q (p ∷ ps) qs = omega (arith, occurs_all_append q ps qs)

pub occurs_all_one : (q : Row) (p : List Row) → occurs_all q (p ∷ []) ≡ occurs q p
unfolding occurs_all
occurs_all_one q p = omega arith

pub occurs-patches : (q : Row) (ps : List (List Row)) → occurs q (patch_rows ps) ≡ occurs_all q ps
unfolding patch_rows occurs_all occurs
occurs-patches q [] = refl
occurs-patches q (p ∷ ps) = occurs-append q p (patch_rows ps) ∙ ap (λ (n : ℕ). occurs q p + n) (occurs-patches q ps)

equal_rows_lem : (r s : Row) → equal_rows r s ≡ true → r ≡ s
equal_rows_lem r s e =
    let w = both_true (eqb r.key s.key) (eqb r.bits s.bits) e in
    let f = eqb-true r.key s.key w.0 in
    let g = eqb-true r.bits s.bits w.1 in
    λ i. record { key = f i; bits = g i }

equal_patches_lem : (p q : List Row) → equal_patches p q ≡ true → p ≡ q
unfolding equal_patches
equal_patches_lem [] [] e = refl
equal_patches_lem [] (s ∷ ss) e = absurd (true≢false (sym e))
equal_patches_lem (r ∷ rs) [] e = absurd (true≢false (sym e))
equal_patches_lem (r ∷ rs) (s ∷ ss) e =
    let w = both_true (equal_rows r s) (equal_patches rs ss) e in
    ap₂ ◌∷◌ (equal_rows_lem r s w.0) (equal_patches_lem rs ss w.1)

-- a patch that stands among the patches, and the others
pub take_patch_lem : (p : List Row) (ps : List (List Row)) → any_of (equal_patches p) ps ≡ true → (q : Row) → occurs_all q ps ≡ occurs q p + occurs_all q (take_patch p ps)
unfolding any_of take_patch occurs_all
take_patch_lem p [] e q = absurd (true≢false (sym e))
take_patch_lem p (x ∷ ps) e q = go (equal_patches p x) refl e (take_patch_lem p ps)
  where
    go : (b : Bool) → equal_patches p x ≡ b → (b || any_of (equal_patches p) ps) ≡ true
        → (any_of (equal_patches p) ps ≡ true → (r : Row) → occurs_all r ps ≡ occurs r p + occurs_all r (take_patch p ps))
        → occurs q x + occurs_all q ps ≡ occurs q p + occurs_all q (cond b ps (x ∷ take_patch p ps))
    go true f e ih = ap (λ (y : List Row). occurs q y + occurs_all q ps) (sym (equal_patches_lem p x f))
    go false f e ih = omega (arith, ih e q)
