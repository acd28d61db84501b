-- What `find` says of the sections of a table: what holds of all, whether one of them has a property, and what an add brings.
use Prim.Native.Nat.{ℕ}
use mathlib.Core.Path.{◌≡◌, refl, sym, ◌∙◌, ap, subst}
use mathlib.Core.Bool.{Bool, false}
use mathlib.Core.List.{List, [], ◌∷◌}
use mathlib.Core.Option.{Option, some}
use native.Mathlib.Omega.{arith}
use native.Mathlib.Decide.{ℕ_discrete}
use Rattle.lists.specs.Lists.{any_of}
use Rattle.lists.proofs.Booleans.{never}
use Rattle.lists.proofs.All.{All}
use Rattle.lists.proofs.Any.{any_false}
use Rattle.columns.specs.Columns.{Row}
use Rattle.record.specs.Section.{Section, find}
use Rattle.record.proofs.Found.{find-key}
use Rattle.table.specs.Combine.{of_row, absorb, added}
use Rattle.table.proofs.Lookup.{Rising, keys_in, above_rising, find_nil, find_head, find_tail, find_above, absorb-rising, join, join_assoc, join_none, none_join, only, find-absorb}

-- what is found is one of the sections
pub found_all : (P : Section → Type 0) (k : ℕ) (ts : List Section) {t : Section} → All P ts → find k ts ≡ some t → P t
found_all P k [] a e = let z = sym (find_nil k) ∙ e in never cc
found_all P k (u ∷ ts) {t} a e = go (ℕ_discrete k u.key) (found_all P k ts a.1)
  where
    go : Dec (k ≡ u.key) → (find k ts ≡ some t → P t) → P t
    go (yes q) ih = let z = sym (find_head k u ts q) ∙ e in let p : u ≡ t = cc in subst P p a.0
    go (no q) ih = ih (sym (find_tail k u ts q) ∙ e)

-- where no section of a patch has q beside the held one of its key, the patch's section at k has it not beside the one held there
pub found_not : (q : Option Section → Section → Bool) (k : ℕ) (ts ps : List Section) {p : Section} → any_of (λ (p : Section). q (find p.key ts) p) ps ≡ false → find k ps ≡ some p
    → q (find k ts) p ≡ false
found_not q k ts ps {p} n e =
    ap (λ (l : ℕ). q (find l ts) p) (sym (find-key k ps e))
    ∙ found_all (λ (p : Section). q (find p.key ts) p ≡ false) k ps (any_false (λ (p : Section). q (find p.key ts) p) ps n) e

-- a section of a rising table is found at its key, so what no found section has none has
pub any_none : (q : Section → Bool) (ts : List Section) → Rising (keys_in ts) → ((t : Section) → find t.key ts ≡ some t → q t ≡ false) → any_of q ts ≡ false
unfolding any_of
any_none q [] a h = refl
any_none q (t ∷ ts) a h =
    rw (h t (find_head t.key t ts refl))
    (any_none q ts (above_rising t.key (keys_in ts) a) (λ u e. h u (later u e (ℕ_discrete u.key t.key))))
  where
    later : (u : Section) → find u.key ts ≡ some u → Dec (u.key ≡ t.key) → find u.key (t ∷ ts) ≡ some u
    later u e (yes p) = let z = sym (find_above t.key u.key ts a (omega arith)) ∙ e in never cc
    later u e (no p) = find_tail u.key t ts p ∙ e

-- an add joins the section that its rows make in an empty table to the held one
pub find-added : (rs : List Row) (ts : List Section) (k : ℕ) → Rising (keys_in ts) → find k (added ts rs) ≡ join (find k ts) (find k (added [] rs))
unfolding added
find-added [] ts k a = sym (ap (join (find k ts)) (find_nil k) ∙ join_none (find k ts))
find-added (r ∷ rs) ts k a =
    find-added rs (absorb (of_row r) ts) k (absorb-rising (of_row r) ts a)
    ∙ ap joined (find-absorb (of_row r) k ts a)
    ∙ join_assoc (find k ts) (only k (of_row r)) (find k (added [] rs))
    ∙ ap (join (find k ts)) (sym (find-added rs (absorb (of_row r) []) k (absorb-rising (of_row r) [] tt) ∙ ap joined first))
  where
    joined : Option Section → Option Section
    joined o = join o (find k (added [] rs))

    first : find k (absorb (of_row r) []) ≡ only k (of_row r)
    first = find-absorb (of_row r) k [] tt ∙ ap (λ (o : Option Section). join o (only k (of_row r))) (find_nil k) ∙ none_join (only k (of_row r))
