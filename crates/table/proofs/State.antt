-- A sound table in bytes: its sections fit, their keys rise, and its used bytes are those of its sections. The idea: a sound record and its section determine
-- each other (`record_meaning`).
use Prim.Native.Nat.{ℕ, zero, suc, ◌*◌, ◌^◌, ◌≤◌, ◌<◌}
use mathlib.Core.Path.{◌≡◌, refl, sym, ap, ap₂, ◌∙◌, subst}
use mathlib.Core.List.{List, [], ◌∷◌, ◌++◌, map}
use native.Mathlib.Omega.{arith}
use lib.Dec.{T, ltb, ltb→lt}
use lib.Ieee.Fits.{and_l, and_r}
use lib.ListN.{length, take, drop, length-map}
use Rattle.codec.specs.Cells.{cells, image}
use Rattle.codec.proofs.Laws.{AreBytes, drop-bytes, take-bytes, number_at-lt}
use Rattle.codec.proofs.Cells.{length-cells, cells-take, image-cells}
use Rattle.level.proofs.Carry.{split-total}
use Rattle.record.specs.declared.Record.{Record}
use Rattle.record.specs.Layout.{decode, encode, records, capacity}
use Rattle.record.specs.Keys.{record_keys, rising}
use Rattle.record.specs.Sound.{sound_record, sound_records, sound}
use Rattle.record.specs.Section.{Section, meaning, record_of, sections, section_bytes}
use Rattle.record.proofs.Laws.{encode-decode}
use Rattle.record.proofs.Parts.{empty-total, sound_record_parts, residue_bound, total_of-bound}
use Rattle.record.proofs.Sound.{sound_parts, sound_if}
use Rattle.lists.proofs.All.{All}
use Rattle.table.proofs.Lookup.{Rising, keys_in}
use Rattle.table.proofs.Proper.{Proper}
use Rattle.table.proofs.Bytes.{Storable, rising-records, sound-records}

-- ---- one record
pub section_proper : (r : Record) → r.key < 2 ^ 32 → T (sound_record r) → Proper (meaning r)
section_proper r k t =
    let p = sound_record_parts r t in
    record {
      key = k;
      count = p.count;
      top = p.top;
      finest = p.finest;
      high = total_of-bound r.count r.high p.high;
      middle = total_of-bound r.count r.middle p.middle;
      low = total_of-bound r.count r.low p.low;
      no_middle = λ l. empty-total r.middle (p.no_middle l);
      no_low = λ l. empty-total r.low (p.no_low l);
    }

pub record_meaning : (r : Record) → T (sound_record r) → record_of (meaning r) ≡ r
record_meaning r t =
    let p = sound_record_parts r t in
    let h = split-total r.high (residue_bound r.count r.high p.high) in
    let m = split-total r.middle (residue_bound r.count r.middle p.middle) in
    let l = split-total r.low (residue_bound r.count r.low p.low) in
    λ i. record { key = r.key; count = r.count; top = r.top; finest = r.finest; high = h i; middle = m i; low = l i }

-- ---- the records of a table
cells_all : {A : Type 0} (P : A → Type 0) (w : ℕ) (f : List ℕ → A) → ((b : List ℕ) → AreBytes b → P (f b)) → (n : ℕ) (s : List ℕ) → AreBytes s → All P (cells w f n s)
unfolding cells
cells_all P w f h zero s a = tt
cells_all P w f h (suc n) s a = (h (take w s) (take-bytes w s a), cells_all P w f h n (drop w s) (drop-bytes w s a))

abbrev InFields : Record → Type 0
InFields r = (r.key < 2 ^ 32) × (r.count < 2 ^ 32)

pub records_in_fields : (s : List ℕ) (g : ℕ) → AreBytes s → All InFields (records s g)
unfolding decode
records_in_fields s g = cells_all InFields 64 decode in_fields g s
  where
    in_fields : (b : List ℕ) → AreBytes b → InFields (decode b)
    in_fields b a = (number_at-lt 4 0 b a, number_at-lt 4 4 b a)

fits_all : (rs : List Record) → All InFields rs → T (sound_records rs) → All Storable (map meaning rs)
unfolding sound_records
fits_all [] a t = tt
fits_all (r ∷ rs) a t = (
  record { proper = section_proper r a.0.0 (and_l (sound_record r) (sound_records rs) t); few = omega (arith, a.0.1) },
  fits_all rs a.1 (and_r (sound_record r) (sound_records rs) t),
)

rising-keys : (rs : List Record) → T (rising (record_keys rs)) → Rising (keys_in (map meaning rs))
unfolding rising
rising-keys [] t = tt
rising-keys (r ∷ []) t = tt
rising-keys (r ∷ q ∷ rs) t =
    (ltb→lt r.key q.key (and_l (ltb r.key q.key) (rising (record_keys (q ∷ rs))) t), rising-keys (q ∷ rs) (and_r (ltb r.key q.key) (rising (record_keys (q ∷ rs))) t))

records_back : (rs : List Record) → T (sound_records rs) → map record_of (map meaning rs) ≡ rs
unfolding sound_records
records_back [] t = refl
records_back (r ∷ rs) t = ap₂ ◌∷◌ (record_meaning r (and_l (sound_record r) (sound_records rs) t)) (records_back rs (and_r (sound_record r) (sound_records rs) t))

pub length-sections : (s : List ℕ) (g : ℕ) → length (sections s g) ≡ g
length-sections s g = length-map (records s g) meaning ∙ length-cells 64 decode g s

-- ---- a sound table
module _ (s : List ℕ) (g : ℕ) (ok : T (sound s g)) where
  pub sound_fits : AreBytes s → All Storable (sections s g)
  sound_fits a = fits_all (records s g) (records_in_fields s g a) (sound_parts s g ok).3

  pub sound-rising : Rising (keys_in (sections s g))
  sound-rising = rising-keys (records s g) (sound_parts s g ok).2

  pub sound_records_of : map record_of (sections s g) ≡ records s g
  sound_records_of = records_back (records s g) (sound_parts s g ok).3

-- records of sections that fit, in rising order, are a sound table
pub sound-sections : (s : List ℕ) (g : ℕ) (ts : List Section) → g ≤ capacity (length s) → records s g ≡ map record_of ts → All Storable ts → Rising (keys_in ts) → T (sound s g)
sound-sections s g ts h e a r =
    sound_if s g (omega arith) (omega arith)
    (subst T (sym (ap (λ (rs : List Record). rising (record_keys rs)) e ∙ rising-records ts r)) tt)
    (subst T (sym (ap sound_records e ∙ sound-records ts a)) tt)

-- ---- the used bytes
image-map : (ts : List Section) → section_bytes ts ≡ image encode (map record_of ts)
unfolding image
image-map [] = refl
image-map (t ∷ ts) = ap (λ (l : List ℕ). encode (record_of t) ++ l) (image-map ts)

pub used-bytes : (s : List ℕ) (g : ℕ) → T (sound s g) → AreBytes s → take (g * 64) s ≡ section_bytes (sections s g)
used-bytes s g ok b =
    sym (image-map (sections s g) ∙ ap (image encode) (sound_records_of s g ok) ∙ image-cells 64 encode decode encode-decode g s (sound_parts s g ok).0 b)

-- ---- tables whose used bytes agree
module _ (s t : List ℕ) (g : ℕ) (same : take (g * 64) s ≡ take (g * 64) t) (long : g * 64 ≤ length s) (long' : g * 64 ≤ length t) where
  pub records_agree : records s g ≡ records t g
  records_agree = sym (cells-take 64 decode g s long) ∙ ap (cells 64 decode g) same ∙ cells-take 64 decode g t long'

  pub sections_agree : sections s g ≡ sections t g
  sections_agree = ap (map meaning) records_agree

  pub sound_agree : T (sound t g) → T (sound s g)
  sound_agree ok =
      let p = sound_parts t g ok in
      sound_if s g long p.1
      (subst (λ (rs : List Record). T (rising (record_keys rs))) (sym records_agree) p.2)
      (subst (λ (rs : List Record). T (sound_records rs)) (sym records_agree) p.3)
