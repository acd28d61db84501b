-- A section looked up in a table.
use mathlib.Core.Path.{◌≡◌, refl, sym, ap, ◌∙◌, subst}
use mathlib.Core.Bool.{Bool, true, false, cond, ◌||◌}
use mathlib.Core.List.{List, [], ◌∷◌, map}
use mathlib.Core.Option.{none, some}
use Prim.Native.Nat.{ℕ, zero, suc, ◌+◌, ◌*◌, ◌≤◌, ◌<◌}
use native.Mathlib.Nat.{lt_irrefl}
use native.Mathlib.Omega.{arith}
use borrow.Author.Tests.{eq-eqb, ne_eqb, eqb-true, eqb-false}
use lib.Dec.{T, eqb}
use lib.ListN.{length, get_or}
use Rattle.lists.proofs.Booleans.{never}
use Rattle.codec.proofs.Cells.{length-cells}
use Rattle.record.specs.declared.Record.{Record}
use Rattle.std.specs.Prelude.{Ok, Err}
use Rattle.record.specs.Layout.{records, record_at, decode}
use Rattle.record.specs.Keys.{record_keys, rising, has, place}
use Rattle.record.specs.Section.{Section, meaning, sections, find}
use Rattle.record.specs.Sound.{sound, sound_record}
use Rattle.record.proofs.Laws.{get_d_records, length-keys}
use Rattle.record.proofs.Order.{rising_tail, rising-lt, place_is_at, place_is_gap}
use Rattle.record.proofs.Sound.{sound_parts, sound_at}

find_at : (k : ℕ) (rs : List Record) (i : ℕ) (d : Record) → T (rising (record_keys rs)) → i < length (record_keys rs) → get_or (record_keys rs) i 0 ≡ k → find k (map meaning rs) ≡ some (meaning (get_or rs i d))
unfolding find
find_at k [] i d h l e = absurd (lt_irrefl 0 (omega arith))
find_at k (r ∷ rs) zero d h l e = rw (eq-eqb k r.key (sym e))
find_at k (r ∷ rs) (suc i) d h l e =
    let m : r.key < get_or (record_keys rs) i 0 = rising-lt (record_keys (r ∷ rs)) h 0 (suc i) (omega arith) l in
    let n : k ≡ r.key → ⊥ = λ f. lt_irrefl k (omega arith) in
    rw (ne_eqb k r.key n) (find_at k rs i d (rising_tail r.key (record_keys rs) h) (omega arith) e)

find_none : (k : ℕ) (rs : List Record) → has k (record_keys rs) ≡ false → find k (map meaning rs) ≡ none
unfolding find has
find_none k [] e = refl
find_none k (r ∷ rs) e = by (eqb r.key k) refl e (find_none k rs)
  where
    by : (b : Bool) → eqb r.key k ≡ b → (b || has k (record_keys rs)) ≡ false → (has k (record_keys rs) ≡ false → find k (map meaning rs) ≡ none) → cond (eqb k r.key) (some (meaning r)) (find k (map meaning rs)) ≡ none
    by true q f ih = never (cc)
    by false q f ih = rw (ne_eqb k r.key (λ g. eqb-false r.key k q (sym g))) (ih f)

-- each record of a sound table is sound
pub sound_record_at : (s : List ℕ) (g i : ℕ) → T (sound s g) → i < g → T (sound_record (record_at s (i * 64)))
sound_record_at s g i h l =
    let p = sound_parts s g h in
    let d : Record = record_at s (i * 64) in
    subst (λ (r : Record). T (sound_record r)) (get_d_records s g p.0 i d l) (sound_at (records s g) i d (omega (arith, length-cells 64 decode g s)) p.3)

module _ (s : List ℕ) (g k i : ℕ) (h : T (sound s g)) where
  -- the record at the place of a key
  pub found : Ok i ≡ place k (record_keys (records s g)) → (i * 64 + 64 ≤ length s) × (find k (sections s g) ≡ some (meaning (record_at s (i * 64)))) × T (sound_record (record_at s (i * 64)))
  found e =
      let p = sound_parts s g h in
      let w = place_is_at k (record_keys (records s g)) i p.2 e in
      let n = length-keys s g in
      let l : i < g = omega arith in
      let d : Record = record_at s (i * 64) in (
        omega arith,
        find_at k (records s g) i d p.2 w.0 w.1 ∙ ap (λ (x : Record). some (meaning x)) (get_d_records s g p.0 i d l),
        sound_record_at s g i h l,
      )

  pub missing : Err i ≡ place k (record_keys (records s g)) → find k (sections s g) ≡ none
  missing e = find_none k (records s g) (place_is_gap k (record_keys (records s g)) i e).1

-- a section that is found has the number that was looked for
pub find-key : (k : ℕ) (ts : List Section) {t : Section} → find k ts ≡ some t → t.key ≡ k
unfolding find
find-key k [] e = never (cc)
find-key k (u ∷ ts) {t} e = by (eqb k u.key) (eqb-true k u.key) (find-key k ts) e
  where
    by : (b : Bool) → (b ≡ true → k ≡ u.key) → (find k ts ≡ some t → t.key ≡ k) → cond b (some u) (find k ts) ≡ some t → t.key ≡ k
    by true q ih e = let s : u ≡ t = cc in ap (λ (x : Section). x.key) (sym s) ∙ sym (q refl)
    by false q ih e = ih e
