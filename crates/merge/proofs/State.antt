-- A sound table and its last record; tables whose used bytes agree; what is written at the end. The idea: a table is its records but the last, and the last.
use Prim.Native.Nat.{ℕ, zero, suc, ◌+◌, ◌-◌, ◌*◌, ◌≤◌, ◌<◌}
use mathlib.Core.Path.{◌≡◌, refl, sym, ◌∙◌, ap, ap₂, subst}
use mathlib.Core.Bool.{true, false, ◌||◌}
use mathlib.Core.List.{List, [], ◌∷◌, ◌++◌, map, map-append, append_assoc}
use native.Mathlib.Omega.{arith}
use native.Mathlib.Numerals.{add-one}
use native.Mathlib.Nat.{lt_trans}
use borrow.Author.Tests.{le-ltb}
use lib.Dec.{T, ltb, ltb→lt}
use lib.Ieee.Fits.{and_l, and_r, and_i}
use lib.ListN.{length, drop, length-append, take-append-drop}
use lib.Seq.{sets}
use Rattle.codec.specs.Cells.{cells}
use Rattle.codec.proofs.Cells.{cells-add, image_snoc}
use Rattle.codec.proofs.Laws.{AreBytes, number_at-lt, drop_stored}
use Rattle.record.specs.declared.Record.{Record}
use Rattle.record.specs.Layout.{record_at, records, decode, encode}
use Rattle.record.specs.Keys.{record_keys, rising}
use Rattle.record.specs.Sound.{sound_record, sound_records, sound}
use Rattle.record.specs.Section.{Section, meaning, record_of, sections, section_bytes, written}
use Rattle.record.proofs.Laws.{length-encode, decode-part}
use Rattle.record.proofs.Sound.{sound_parts, sound_if}
use Rattle.table.specs.Calls.{most_rows, overflows}
use Rattle.lists.specs.Lists.{any_of}
use Rattle.lists.proofs.All.{All, all_append, all_map}
use Rattle.lists.proofs.Any.{any_append}
use Rattle.table.proofs.State.{length-sections, used-bytes}
use Rattle.merge.specs.Steps.{key_at, count_at, section_in}
use Rattle.merge.proofs.Merged.{KeysBelow}

-- ---- one record more
records_more : (s : List ℕ) (i : ℕ) → suc i * 64 ≤ length s → records s (suc i) ≡ records s i ++ record_at s (i * 64) ∷ []
unfolding cells
records_more s i h =
    ap (λ (n : ℕ). records s n) (sym (add-one i))
    ∙ cells-add 64 decode i 1 s
    ∙ ap (λ (r : Record). records s i ++ r ∷ []) (decode-part s (i * 64) (omega arith))

pub sections_more : (s : List ℕ) (i : ℕ) → suc i * 64 ≤ length s → sections s (suc i) ≡ sections s i ++ section_in s i ∷ []
sections_more s i h = ap (map meaning) (records_more s i h) ∙ map-append meaning (records s i) (record_at s (i * 64) ∷ [])

-- ---- the parts of a sound table's condition, from the end
rising_but_last : (ks : List ℕ) (k : ℕ) → T (rising (ks ++ k ∷ [])) → T (rising ks) × All (λ (x : ℕ). x < k) ks
unfolding rising
rising_but_last [] k h = (tt, tt)
rising_but_last (x ∷ []) k h = (tt, (ltb→lt x k (and_l (ltb x k) true h), tt))
rising_but_last (x ∷ y ∷ ys) k h =
    let a = and_l (ltb x y) (rising (y ∷ (ys ++ k ∷ []))) h in
    let w = rising_but_last (y ∷ ys) k (and_r (ltb x y) (rising (y ∷ (ys ++ k ∷ []))) h) in
    (and_i (ltb x y) (rising (y ∷ ys)) a w.0, (lt_trans (ltb→lt x y a) w.1.0, w.1))

sound_front : (rs : List Record) (r : Record) → T (sound_records (rs ++ r ∷ [])) → T (sound_records rs)
unfolding sound_records
sound_front [] r h = tt
sound_front (x ∷ xs) r h =
    let rest = sound_records (xs ++ r ∷ []) in
    and_i (sound_record x) (sound_records xs) (and_l (sound_record x) rest h) (sound_front xs r (and_r (sound_record x) rest h))

sections-below : (k : ℕ) (rs : List Record) → All (λ (x : ℕ). x < k) (record_keys rs) → KeysBelow k (map meaning rs)
sections-below k [] a = tt
sections-below k (r ∷ rs) a = (a.0, sections-below k rs a.1)

-- a sound table without its last record is sound, and that record has the largest key
pub record Prior (s : List ℕ) (i : ℕ) : Type 0 where
  pub fits : suc i * 64 ≤ length s
  pub front : T (sound s i)
  pub keys_below : KeysBelow (key_at s i) (sections s i)

sound_prior : (s : List ℕ) (i : ℕ) → T (sound s (suc i)) → Prior s i
sound_prior s i h =
    let p = sound_parts s (suc i) h in
    let fits : suc i * 64 ≤ length s = p.0 in
    let e = records_more s i fits in
    let r = rising_but_last (record_keys (records s i)) (key_at s i) (rw (e, map-append) at p.2) in
    record {
      fits = fits;
      front = sound_if s i (omega arith) (omega (arith, p.1)) r.0 (sound_front (records s i) (record_at s (i * 64)) (rw e at p.3));
      keys_below = sections-below (key_at s i) (records s i) r.1;
    }

pub prior : (s : List ℕ) (i : ℕ) → T (sound s i) → 0 < i → Prior s (i - 1)
prior s i h l = let e : i ≡ suc (i - 1) = omega arith in sound_prior s (i - 1) (rw e at h)

-- all keys of a table are below k where the last one is
pub below_all : (s : List ℕ) (i k : ℕ) → T (sound s i) → (0 < i → key_at s (i - 1) < k) → KeysBelow k (sections s i)
unfolding cells
below_all s zero k h l = tt
below_all s (suc i) k h l =
    let p = sound_prior s i h in
    let n : suc i - 1 ≡ i = omega arith in
    let m : key_at s i < k = rw n at (l (omega arith)) in
    subst (KeysBelow k) (sym (sections_more s i p.fits))
    (all_append (λ (t : Section). t.key < k) (sections s i) (section_in s i ∷ [])
    (all_map (λ (t : Section). t.key < key_at s i) (λ (t : Section). t.key < k) (λ t a. lt_trans a m) (sections s i) p.keys_below) (m, tt))

-- its sections written over a sound table change no byte
pub written_self : (s : List ℕ) (g : ℕ) → T (sound s g) → AreBytes s → written (sections s g) s ≡ s
written_self s g t h =
    let n : 64 * length (sections s g) ≡ g * 64 = omega (arith, length-sections s g) in
    ap₂ (λ (x : List ℕ) (k : ℕ). x ++ drop k s) (sym (used-bytes s g t h)) n ∙ take-append-drop (g * 64) s

-- no row count in a table overflows: it has 32 bits
pub none_overflow : (s : List ℕ) (i : ℕ) → i * 64 ≤ length s → AreBytes s → any_of overflows (sections s i) ≡ false
unfolding cells any_of
none_overflow s zero l h = refl
none_overflow s (suc i) l h =
    ap (any_of overflows) (sections_more s i l)
    ∙ any_append overflows (sections s i) (section_in s i)
    ∙ ap₂ ◌||◌ (none_overflow s i (omega arith) h) (le-ltb most_rows (count_at s i) (omega (arith, number_at-lt 4 (i * 64 + 4) s h)))

-- ---- one section more, written at its place
pub written_more : (us : List Section) (x : Section) (s : List ℕ) → suc (length us) * 64 ≤ length s
    → written us (sets s (length us * 64) (encode (record_of x))) ≡ written (us ++ x ∷ []) s
written_more us x s h =
    let e : List ℕ = encode (record_of x) in
    let l : length e ≡ 64 = length-encode (record_of x) in
    let a : 64 * length us ≡ length us * 64 = omega arith in
    let b : length us * 64 + length e ≡ 64 * length (us ++ x ∷ []) = omega (arith, length-append us (x ∷ [])) in
    ap (λ (n : ℕ). section_bytes us ++ drop n (sets s (length us * 64) e)) a
    ∙ ap (λ (y : List ℕ). section_bytes us ++ y) (drop_stored s e (length us * 64) (omega arith))
    ∙ sym (append_assoc (section_bytes us) e (drop (length us * 64 + length e) s))
    ∙ ap₂ (λ (y : List ℕ) (n : ℕ). y ++ drop n s) (sym (image_snoc (λ (t : Section). encode (record_of t)) us x)) b
