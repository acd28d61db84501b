-- The records of a table, reduced one after the other. The idea: where 20 does not hold each record has the rows that the patch has for it (`rows_enough`); what
-- remains of the first i records, written at the front, leaves the records from i on as they were, and the next one that remains is put right after it (`Kept`).
use Prim.Native.Nat.{ℕ, ◌+◌, ◌*◌, ◌≤◌, ◌<◌}
use mathlib.Core.Path.{◌≡◌, refl, sym, ◌∙◌, ap, ap₂}
use mathlib.Core.Bool.{Bool, true, false, cond}
use mathlib.Core.List.{List, [], ◌∷◌, ◌++◌, map, map-append, append-nil}
use mathlib.Core.Option.{Option, none, some}
use native.Mathlib.Omega.{arith}
use native.Mathlib.Nat.{mul_comm}
use borrow.Author.Tests.{eq-eqb, ne_eqb, ltb-false, le-ltb}
use lib.Dec.{T, eqb, ltb}
use lib.ListN.{length, take, drop, length-append}
use lib.Seq.{sets, sets-eq}
use Rattle.codec.specs.Cells.{cells, image}
use Rattle.codec.proofs.Cells.{cells-add, image_snoc}
use Rattle.codec.proofs.Laws.{drop_past}
use Rattle.level.specs.Carry.{carry_base}
use Rattle.level.proofs.Carry.{residue_lt}
use Rattle.lists.proofs.All.{All, all_at}
use Rattle.lists.proofs.Any.{any_false}
use Rattle.record.specs.declared.Record.{Record}
use Rattle.record.specs.Layout.{record_at, records, decode, encode, capacity}
use Rattle.record.specs.Sound.{sound}
use Rattle.record.specs.Section.{Section, meaning, record_of, sections, section_bytes, written, find}
use Rattle.record.proofs.Laws.{length-encode, decode-part, get_d_sections}
use Rattle.record.proofs.Sound.{sound_parts}
use Rattle.table.proofs.Lookup.{Rising, keys_in}
use Rattle.table.proofs.Bytes.{length-section_bytes, length-written, used-written}
use Rattle.table.proofs.State.{length-sections, sound-rising}
use Rattle.overflow.specs.Counts.{count_of, count_in}
use Rattle.remove.specs.Remaining.{without_if, all_without, with_rows, remaining, has_fewer, too_few_rows}
use Rattle.remove.proofs.Found.{found_not, any_none}
use Rattle.remove.proofs.Remaining.{remaining-length}

-- ---- rows enough
-- the patch ps has more rows for the section t than t has
abbrev lacks : List Section → Section → Bool
lacks ps t = ltb t.count (count_in t.key ps)

none_lacks : (ts ps : List Section) → Rising (keys_in ts) → too_few_rows ts ps ≡ false → All (λ (t : Section). lacks ps t ≡ false) ts
unfolding has_fewer
none_lacks ts ps a n = any_false (lacks ps) ts (any_none (lacks ps) ts a (λ t e. by t e (find t.key ps) refl))
  where
    by : (t : Section) → find t.key ts ≡ some t → (o : Option Section) → find t.key ps ≡ o → ltb t.count (count_of o) ≡ false
    by t e none f = le-ltb t.count 0 (omega arith)
    by t e (some p) f = ap (λ (x : Option Section). has_fewer x p) (sym e) ∙ found_not has_fewer t.key ts ps n f

module _ (s : List ℕ) (g : ℕ) (ok : T (sound s g)) (ps : List Section) (enough : too_few_rows (sections s g) ps ≡ false) (i : ℕ) (h : i < g) where
  pub rows_enough : count_in (record_at s (i * 64)).key ps ≤ (record_at s (i * 64)).count
  rows_enough =
      let r = record_at s (i * 64) in
      let e = get_d_sections s g (sound_parts s g ok).0 i r h in
      let a = all_at (λ (t : Section). lacks ps t ≡ false) (sections s g) i (meaning r) (omega (arith, length-sections s g)) (none_lacks (sections s g) ps (sound-rising s g ok) enough) in
      ltb-false r.count (count_in r.key ps) (ap (lacks ps) (sym e) ∙ a)

-- ---- a record as it was computed
pub residues_in_range : (t : Section) {r : Record} → r ≡ record_of t → (r.high.residue < carry_base) × (r.middle.residue < carry_base) × (r.low.residue < carry_base)
residues_in_range t e = rw e (residue_lt t.high, residue_lt t.middle, residue_lt t.low)

-- what the patch ps leaves of the section t
abbrev pub left_by : List Section → Section → Section
left_by ps t = without_if t (find t.key ps)

-- ---- one section more
sections_more : (s : List ℕ) (i : ℕ) → i * 64 + 64 ≤ length s → sections s (i + 1) ≡ sections s i ++ meaning (record_at s (i * 64)) ∷ []
unfolding cells
sections_more s i h =
    ap (map meaning) (cells-add 64 decode i 1 s ∙ ap (λ (r : Record). records s i ++ r ∷ []) (decode-part s (i * 64) h))
    ∙ map-append meaning (records s i) (record_at s (i * 64) ∷ [])

with_rows-append : (ts us : List Section) → with_rows (ts ++ us) ≡ with_rows ts ++ with_rows us
unfolding with_rows
with_rows-append [] us = refl
with_rows-append (t ∷ ts) us = go (eqb t.count 0) (with_rows-append ts us)
  where
    go : (b : Bool) → with_rows (ts ++ us) ≡ with_rows ts ++ with_rows us
        → cond b (with_rows (ts ++ us)) (t ∷ with_rows (ts ++ us)) ≡ cond b (with_rows ts) (t ∷ with_rows ts) ++ with_rows us
    go true ih = ih
    go false ih = ap (λ (l : List Section). t ∷ l) ih

module _ (ts ps : List Section) (t : Section) where
  remaining_more : remaining (ts ++ t ∷ []) ps ≡ remaining ts ps ++ with_rows (left_by ps t ∷ [])
  unfolding remaining all_without
  remaining_more = ap with_rows (map-append (left_by ps) ts (t ∷ [])) ∙ with_rows-append (all_without ts ps) (left_by ps t ∷ [])

  remaining-kept : 0 < (left_by ps t).count → remaining (ts ++ t ∷ []) ps ≡ remaining ts ps ++ left_by ps t ∷ []
  unfolding with_rows
  remaining-kept h = remaining_more ∙ rw (ne_eqb (left_by ps t).count 0 (λ e. omega arith))

  remaining_gone : (left_by ps t).count ≤ 0 → remaining (ts ++ t ∷ []) ps ≡ remaining ts ps
  unfolding with_rows
  remaining_gone h = remaining_more ∙ rw (eq-eqb (left_by ps t).count 0 (omega arith)) (append-nil (remaining ts ps))

-- ---- sections at the front of the bytes
module _ (us : List Section) (s : List ℕ) where
  -- the records after them are as they were
  written_after : (i : ℕ) → length us ≤ i → i < capacity (length s) → record_at (written us s) (i * 64) ≡ record_at s (i * 64)
  written_after i h l =
      let n = length-written us s (omega arith) in
      sym (decode-part (written us s) (i * 64) (omega arith))
      ∙ ap (λ (l : List ℕ). decode (take 64 l)) (drop_past (section_bytes us) s (i * 64) (64 * length us) (length-section_bytes us) (omega arith))
      ∙ decode-part s (i * 64) (omega arith)

  -- a record put right after them
  written_next : (x : Section) → length us < capacity (length s) → sets (written us s) (length us * 64) (encode (record_of x)) ≡ written (us ++ x ∷ []) s
  written_next x h =
      let e = encode (record_of x) in
      let n = length-written us s (omega arith) in
      let k = length-encode (record_of x) in
      let m : length us * 64 + length e ≡ 64 * length (us ++ x ∷ []) = omega (arith, length-append us (x ∷ [])) in
      sets-eq e (written us s) (length us * 64) (omega arith)
      ∙ ap₂ (λ (y z : List ℕ). y ++ e ++ z) (ap (λ (k : ℕ). take k (written us s)) (mul_comm (length us) 64) ∙ used-written us s)
      (drop_past (section_bytes us) s (length us * 64 + length e) (64 * length us) (length-section_bytes us) (omega arith))
      ∙ ap₂ (λ (y : List ℕ) (k : ℕ). y ++ drop k s) (sym (image_snoc (λ (t : Section). encode (record_of t)) us x)) m

-- ---- what remains of the first i records, kept at the front of s', the bytes that s has become
pub record Kept (s : List ℕ) (g : ℕ) (ps : List Section) (s' : List ℕ) (kept i : ℕ) : Type 0 where
  pub within : i ≤ g
  pub places : kept ≡ length (remaining (sections s i) ps)
  pub content : s' ≡ written (remaining (sections s i) ps) s

pub none_kept : (s : List ℕ) (g : ℕ) (ps : List Section) → Kept s g ps s 0 0
unfolding cells image remaining all_without with_rows
none_kept s g ps = record { within = omega arith; places = refl; content = refl }

module _ {s : List ℕ} {g : ℕ} {ps : List Section} {s' : List ℕ} {kept i : ℕ} (ok : T (sound s g)) (k : Kept s g ps s' kept i) where
  abbrev us : List Section
  us = remaining (sections s i) ps

  abbrev next : Record
  next = record_at s (i * 64)

  room : g ≤ capacity (length s)
  room = let p = sound_parts s g ok in omega arith

  fewer : length us ≤ i
  fewer = omega (arith, remaining-length (sections s i) ps, length-sections s i)

  pub kept-fewer : kept ≤ i
  kept-fewer = omega (arith, k.places, fewer)

  pub kept-length : length s' ≡ length s
  kept-length = ap length k.content ∙ length-written us s (omega (arith, room, fewer, k.within))

  pub all_kept : g ≤ i → (kept ≡ length (remaining (sections s g) ps)) × (s' ≡ written (remaining (sections s g) ps) s)
  all_kept h =
      let e : i ≡ g = omega (arith, k.within) in
      (k.places ∙ ap (λ (j : ℕ). length (remaining (sections s j) ps)) e, k.content ∙ ap (λ (j : ℕ). written (remaining (sections s j) ps) s) e)

  module _ (h : i < g) where
    -- the next record can be read, and is as it was; there is a place to put it
    pub next-within : i * 64 + 64 ≤ length s'
    next-within = omega (arith, kept-length, room)

    pub next_as_was : record_at s' (i * 64) ≡ next
    next_as_was = ap (λ (l : List ℕ). record_at l (i * 64)) k.content ∙ written_after us s i fewer (omega (arith, room))

    pub next_place : kept * 64 + 64 ≤ length s'
    next_place = omega (arith, kept-length, room, fewer, k.places)

    more : sections s (i + 1) ≡ sections s i ++ meaning next ∷ []
    more = sections_more s i (omega (arith, room))

    abbrev left : Section
    left = left_by ps (meaning next)

    -- what is left of the next record is put, or has no row
    module _ {r : Record} (reduced : r ≡ record_of left) where
      rows_left : r.count ≡ left.count
      rows_left = ap (λ (x : Record). x.count) reduced

      pub one_kept : {s'' : List ℕ} {kept' : ℕ} → 0 < r.count → s'' ≡ sets s' (kept * 64) (encode r) → kept' ≡ kept + 1 → Kept s g ps s'' kept' (i + 1)
      one_kept c p q =
          let e = sym (ap (λ (ts : List Section). remaining ts ps) more ∙ remaining-kept (sections s i) ps (meaning next) (omega (arith, rows_left))) in
          record {
            within = omega arith;
            places = q ∙ ap (λ (n : ℕ). n + 1) k.places ∙ sym (length-append us (left ∷ [])) ∙ ap length e;
            content =
                p ∙ ap₂ (λ (l : List ℕ) (n : ℕ). sets l (n * 64) (encode r)) k.content k.places
                ∙ ap (λ (x : Record). sets (written us s) (length us * 64) (encode x)) reduced
                ∙ written_next us s left (omega (arith, room, fewer)) ∙ ap (λ (ts : List Section). written ts s) e;
          }

      pub one_gone : {s'' : List ℕ} {kept' : ℕ} → r.count ≤ 0 → s'' ≡ s' → kept' ≡ kept → Kept s g ps s'' kept' (i + 1)
      one_gone c p q =
          let e = sym (ap (λ (ts : List Section). remaining ts ps) more ∙ remaining_gone (sections s i) ps (meaning next) (omega (arith, rows_left))) in
          record {
            within = omega arith;
            places = q ∙ k.places ∙ ap length e;
            content = p ∙ k.content ∙ ap (λ (ts : List Section). written ts s) e;
          }
