-- The last section of two merged lists.
use Prim.Native.Nat.{ℕ, ◌<◌}
use mathlib.Core.Path.{◌≡◌, refl, ◌∙◌, ap, subst}
use mathlib.Core.List.{List, [], ◌∷◌, ◌++◌}
use Rattle.record.specs.Section.{Section}
use Rattle.table.specs.Combine.{combine, absorb, merged}
use Rattle.lists.proofs.All.{All}
use Rattle.table.proofs.Lookup.{absorb-cases, absorb_less, absorb-same, absorb_more}

-- all keys are below k
abbrev pub KeysBelow : ℕ → List Section → Type 0
KeysBelow k ts = All (λ (t : Section). t.key < k) ts

-- ---- absorbing into a list whose last section is known
absorb_front : (s t : Section) → s.key < t.key → (ts : List Section) → absorb s (ts ++ t ∷ []) ≡ absorb s ts ++ t ∷ []
absorb_front s t h =
    absorb-cases (λ (ts us : List Section). absorb s (ts ++ t ∷ []) ≡ us ++ t ∷ []) s
    (absorb_less s t [] h)
    (λ u us l. absorb_less s u (us ++ t ∷ []) l)
    (λ u us e. absorb-same s u (us ++ t ∷ []) e)
    (λ u us l ih. absorb_more s u (us ++ t ∷ []) l ∙ ap (λ (x : List Section). u ∷ x) ih)

module _ (s : Section) where
  absorb_end : (ts : List Section) → KeysBelow s.key ts → absorb s ts ≡ ts ++ s ∷ []
  unfolding absorb
  absorb_end [] b = refl
  absorb_end (t ∷ ts) b = absorb_more s t ts b.0 ∙ ap (λ (x : List Section). t ∷ x) (absorb_end ts b.1)

  absorb_onto : (t : Section) → s.key ≡ t.key → (ts : List Section) → KeysBelow s.key ts → absorb s (ts ++ t ∷ []) ≡ ts ++ combine t s ∷ []
  absorb_onto t e [] b = absorb-same s t [] e
  absorb_onto t e (u ∷ us) b = absorb_more s u (us ++ t ∷ []) b.0 ∙ ap (λ (x : List Section). u ∷ x) (absorb_onto t e us b.1)

  absorb-below : (k : ℕ) → s.key < k → (ts : List Section) → KeysBelow k ts → KeysBelow k (absorb s ts)
  unfolding combine
  absorb-below k h =
      absorb-cases (λ (ts us : List Section). KeysBelow k ts → KeysBelow k us) s
      (λ b. (h, tt)) (λ t ts l b. (h, b)) (λ t ts e b. b) (λ t ts l ih b. (b.0, ih b.1))

-- ---- merging
merged-below : (k : ℕ) (ts ss : List Section) → KeysBelow k ts → KeysBelow k ss → KeysBelow k (merged ts ss)
unfolding merged
merged-below k ts [] a b = a
merged-below k ts (s ∷ ss) a b = merged-below k (absorb s ts) ss (absorb-below s k b.0 ts a) b.1

merged_snoc : (s : Section) (ts ss : List Section) → merged ts (ss ++ s ∷ []) ≡ absorb s (merged ts ss)
unfolding merged
merged_snoc s ts [] = refl
merged_snoc s ts (x ∷ ss) = merged_snoc s (absorb x ts) ss

-- the last section is the first list's, the second's, or of both
pub last_of_first : (t : Section) (ts ss : List Section) → KeysBelow t.key ss → merged (ts ++ t ∷ []) ss ≡ merged ts ss ++ t ∷ []
unfolding merged
last_of_first t ts [] b = refl
last_of_first t ts (s ∷ ss) b =
    ap (λ (x : List Section). merged x ss) (absorb_front s t b.0 ts) ∙ last_of_first t (absorb s ts) ss b.1

pub last_of_second : (s : Section) (ts ss : List Section) → KeysBelow s.key ts → KeysBelow s.key ss → merged ts (ss ++ s ∷ []) ≡ merged ts ss ++ s ∷ []
last_of_second s ts ss a b = merged_snoc s ts ss ∙ absorb_end s (merged ts ss) (merged-below s.key ts ss a b)

pub last_of_both : (t s : Section) (ts ss : List Section) → s.key ≡ t.key → KeysBelow s.key ts → KeysBelow s.key ss
    → merged (ts ++ t ∷ []) (ss ++ s ∷ []) ≡ merged ts ss ++ combine t s ∷ []
last_of_both t s ts ss e a b =
    merged_snoc s (ts ++ t ∷ []) ss
    ∙ ap (absorb s) (last_of_first t ts ss (subst (λ (k : ℕ). KeysBelow k ss) e b))
    ∙ absorb_onto s t e (merged ts ss) (merged-below s.key ts ss a b)
