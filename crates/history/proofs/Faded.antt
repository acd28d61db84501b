-- Sections of which some have 0 for their finest power. The idea: a table with rising keys is given by what `find` reads in it, and there adding and merging combine two
-- sections, of which the smaller finest power is kept; so what is 0 stays 0, and nothing else looks at finest powers.
use Prim.Native.Nat.{ℕ, min}
use mathlib.Core.Path.{◌≡◌, refl, sym, ap, ap₂, ◌∙◌}
use mathlib.Core.Bool.{Bool, true, false, cond, ◌||◌, or-false}
use mathlib.Core.List.{List, [], ◌∷◌, map}
use mathlib.Core.Option.{Option, none, some}
use native.Mathlib.Omega.{arith}
use native.Mathlib.Decide.{ℕ_discrete}
use Rattle.lists.proofs.Booleans.{never}
use Rattle.columns.specs.Columns.{Row}
use Rattle.record.specs.Section.{Section, find}
use Rattle.table.specs.Combine.{of_row, level_of, combine, absorb, merged, added}
use Rattle.table.proofs.Lookup.{Rising, keys_in, find_nil, find_head, find_tail, find_ext, absorb-rising, merged-rising, join, only, find-absorb, find-merged}
use Rattle.history.specs.Older.{with_finest, faded}

-- a section, with 0 for its finest power if b
abbrev pub faded_if : Bool → Section → Section
faded_if b s = cond b (with_finest 0 s) s

-- the same of one that may be absent
abbrev pub faded_option : Bool → Option Section → Option Section
faded_option b none = none
faded_option b (some s) = some (faded_if b s)

-- only a section that is there is said to come from an older file
abbrev pub Present : (ℕ → Bool) → List Section → Type 0
Present f ts = (k : ℕ) → find k ts ≡ none → f k ≡ false

-- what does not look at the finest power of a section
pub blind_same : {A : Type 0} (F : Section → A) (s : Section) → F (with_finest 0 s) ≡ F s → (b : Bool) → F (faded_if b s) ≡ F s
blind_same F s e true = e
blind_same F s e false = refl

faded-key : (b : Bool) (s : Section) → (faded_if b s).key ≡ s.key
faded-key b s = blind_same (λ (t : Section). t.key) s refl b

module _ (f : ℕ → Bool) where
  faded-keys : (ts : List Section) → keys_in (map (faded f) ts) ≡ keys_in ts
  faded-keys [] = refl
  faded-keys (t ∷ ts) = ap₂ ◌∷◌ (faded-key (f t.key) t) (faded-keys ts)

  pub faded-rising : (ts : List Section) → Rising (keys_in ts) → Rising (keys_in (map (faded f) ts))
  faded-rising ts r = rw (faded-keys ts) r

  pub find-faded : (k : ℕ) (ts : List Section) → find k (map (faded f) ts) ≡ faded_option (f k) (find k ts)
  find-faded k [] = rw (find_nil k)
  find-faded k (t ∷ ts) = go (ℕ_discrete k t.key) (find-faded k ts)
    where
      go : Dec (k ≡ t.key) → find k (map (faded f) ts) ≡ faded_option (f k) (find k ts) → find k (map (faded f) (t ∷ ts)) ≡ faded_option (f k) (find k (t ∷ ts))
      go (yes e) ih =
          find_head k (faded f t) (map (faded f) ts) (e ∙ sym (faded-key (f t.key) t))
          ∙ ap (λ (l : ℕ). some (faded_if (f l) t)) (sym e) ∙ ap (faded_option (f k)) (sym (find_head k t ts e))
      go (no n) ih = find_tail k (faded f t) (map (faded f) ts) (λ e. n (e ∙ faded-key (f t.key) t)) ∙ ih ∙ ap (faded_option (f k)) (sym (find_tail k t ts n))

-- ---- adding and merging
combine-faded : (a b : Bool) (s t : Section) → combine (faded_if a s) (faded_if b t) ≡ faded_if (a || b) (combine s t)
unfolding combine level_of
combine-faded true true s t = refl
combine-faded true false s t = let z : min 0 t.finest ≡ 0 = omega arith in ap (λ (x : ℕ). with_finest x (combine s t)) z
combine-faded false true s t = let z : min s.finest 0 ≡ 0 = omega arith in ap (λ (x : ℕ). with_finest x (combine s t)) z
combine-faded false false s t = refl

join_faded : (a b : Bool) (o p : Option Section) → (o ≡ none → a ≡ false) → (p ≡ none → b ≡ false) → join (faded_option a o) (faded_option b p) ≡ faded_option (a || b) (join o p)
unfolding join
join_faded a b none none h k = refl
join_faded a b none (some t) h k = rw (h refl)
join_faded a b (some s) none h k = rw (k refl, or-false)
join_faded a b (some s) (some t) h k = ap some (combine-faded a b s t)

-- what is not there after a join was not there before
join_left : (o p : Option Section) → join o p ≡ none → o ≡ none
unfolding join
join_left none p e = refl
join_left (some s) none e = e
join_left (some s) (some t) e = never cc

join_right : (o p : Option Section) → join o p ≡ none → p ≡ none
unfolding join
join_right none p e = e
join_right (some s) none e = refl
join_right (some s) (some t) e = never cc

module _ (f g : ℕ → Bool) (ts us : List Section) (r : Rising (keys_in ts)) (q : Rising (keys_in us)) (h : Present f ts) (i : Present g us) where
  pub merged-faded : merged (map (faded f) ts) (map (faded g) us) ≡ map (faded (λ k. f k || g k)) (merged ts us)
  merged-faded =
      find_ext _ _ (merged-rising (map (faded f) ts) (map (faded g) us) (faded-rising f ts r)) (faded-rising (λ k. f k || g k) (merged ts us) (merged-rising ts us r))
      (λ k. find-merged (map (faded f) ts) (map (faded g) us) k (faded-rising f ts r) (faded-rising g us q)
      ∙ ap₂ join (find-faded f k ts) (find-faded g k us)
      ∙ join_faded (f k) (g k) (find k ts) (find k us) (h k) (i k)
      ∙ ap (faded_option (f k || g k)) (sym (find-merged ts us k r q))
      ∙ sym (find-faded (λ l. f l || g l) k (merged ts us)))

  pub merged-present : Present (λ k. f k || g k) (merged ts us)
  merged-present k e =
      let n = sym (find-merged ts us k r q) ∙ e in
      rw (h k (join_left (find k ts) (find k us) n), i k (join_right (find k ts) (find k us) n))

module _ (f : ℕ → Bool) where
  absorb-faded : (s : Section) (ts : List Section) → Rising (keys_in ts) → Present f ts → absorb s (map (faded f) ts) ≡ map (faded f) (absorb s ts)
  absorb-faded s ts r h =
      find_ext _ _ (absorb-rising s (map (faded f) ts) (faded-rising f ts r)) (faded-rising f (absorb s ts) (absorb-rising s ts r))
      (λ k. find-absorb s k (map (faded f) ts) (faded-rising f ts r)
      ∙ ap₂ join (find-faded f k ts) (kept_as_is (only k s))
      ∙ join_faded (f k) false (find k ts) (only k s) (h k) (λ e. refl)
      ∙ ap₂ faded_option (or-false (f k)) (sym (find-absorb s k ts r))
      ∙ sym (find-faded f k (absorb s ts)))
    where
      kept_as_is : (o : Option Section) → o ≡ faded_option false o
      kept_as_is none = refl
      kept_as_is (some t) = refl

  absorb-present : (s : Section) (ts : List Section) → Rising (keys_in ts) → Present f ts → Present f (absorb s ts)
  absorb-present s ts r h k e = h k (join_left (find k ts) (only k s) (sym (find-absorb s k ts r) ∙ e))

  pub added-faded : (ts : List Section) (rs : List Row) → Rising (keys_in ts) → Present f ts → (added (map (faded f) ts) rs ≡ map (faded f) (added ts rs)) × Present f (added ts rs)
  unfolding added
  added-faded ts [] r h = (refl, h)
  added-faded ts (x ∷ rs) r h =
      let w = added-faded (absorb (of_row x) ts) rs (absorb-rising (of_row x) ts r) (absorb-present (of_row x) ts r h) in
      (ap (λ (us : List Section). added us rs) (absorb-faded (of_row x) ts r h) ∙ w.0, w.1)

-- ---- what does not look at finest powers

-- what is worked out section by section
pub worked_same : {A : Type 0} (F : List Section → A) (g : Section → A → A) → ((s : Section) (ss : List Section) → F (s ∷ ss) ≡ g s (F ss))
    → ((s : Section) (x : A) → g (with_finest 0 s) x ≡ g s x) → (f : ℕ → Bool) (ts : List Section) → F (map (faded f) ts) ≡ F ts
worked_same F g step blind f [] = refl
worked_same F g step blind f (t ∷ ts) = step (faded f t) (map (faded f) ts) ∙ ap (g (faded f t)) (worked_same F g step blind f ts) ∙ blind_same (λ (s : Section). g s (F ts)) t (blind t (F ts)) (f t.key) ∙ sym (step t ts)

-- and what is said of one section
pub found_same : {A : Type 0} (F : Option Section → A) → ((s : Section) → F (some (with_finest 0 s)) ≡ F (some s)) → (b : Bool) (o : Option Section) → F (faded_option b o) ≡ F o
found_same F blind b none = refl
found_same F blind b (some s) = blind_same (λ (t : Section). F (some t)) s (blind s) b
