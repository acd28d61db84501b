-- Sections in bytes: what is written is read back, and is a sound table. The idea: what holds of one record and its bytes holds of all cells of a table.
use Prim.Native.Nat.{ℕ, suc, ◌*◌, ◌^◌, ◌≤◌, ◌<◌}
use mathlib.Core.Path.{◌≡◌, refl, ◌∙◌, ap, ap₂}
use mathlib.Core.Bool.{true, false, ◌||◌}
use mathlib.Core.List.{List, [], ◌∷◌, ◌++◌, map, append_assoc}
use native.Mathlib.Omega.{arith}
use native.Mathlib.Nat.{mul_comm}
use native.Mathlib.Decide.{dec_le}
use borrow.Author.Tests.{lt-ltb, ltb-false, le-leb, lt-leb}
use lib.Dec.{leb}
use lib.ListN.{length, take, drop, length-append, length-drop}
use lib.Seq.{take_at}
use lib.IntN.{ℤ, pos, negsuc, nat_abs}
use mir.Syntax.{w64}
use mir.Val.{SFits}
use Rattle.level.specs.Level.{level_bound}
use Rattle.level.specs.Finest.{highest_power}
use Rattle.codec.specs.Cells.{cells, image}
use Rattle.codec.proofs.Laws.{drop_past}
use Rattle.codec.proofs.Cells.{cells_cons, length-image}
use Rattle.level.specs.Carry.{carry_base, carry_of, residue_of, split_of}
use Rattle.level.proofs.Carry.{residue_lt, total-split}
use Rattle.record.specs.Layout.{encode, decode, records, capacity}
use Rattle.record.specs.Keys.{record_keys, rising}
use Rattle.record.specs.Sound.{sound_total, is_zero, sound_record, sound_records, sound}
use Rattle.record.specs.Section.{Section, meaning, record_of, sections, section_bytes, written}
use Rattle.record.proofs.Laws.{length-encode, TotalInRange, FieldsInRange, decode-encode}
use Rattle.lists.specs.Lists.{any_of}
use Rattle.lists.proofs.All.{All, all_map, all_zip}
use Rattle.lists.proofs.Any.{any_false}
use Rattle.table.specs.Calls.{most_rows, overflows}
use Rattle.table.proofs.Lookup.{Above, Rising, keys_in}
use Rattle.table.proofs.Proper.{Proper}

-- a section whose record is sound
pub record Storable (s : Section) : Type 0 where
  pub proper : Proper s
  pub few : s.count ≤ most_rows

pub propers : (ts : List Section) → All Storable ts → All Proper ts
propers = all_map Storable Proper (λ t f. f.proper)

-- proper sections of which none overflows
pub storables : (ts : List Section) → All Proper ts → any_of overflows ts ≡ false → All Storable ts
storables ts a n =
    all_zip Proper (λ (t : Section). overflows t ≡ false) Storable (λ t p f. record { proper = p; few = ltb-false most_rows t.count f }) ts a (any_false overflows ts n)

-- ---- one record
pub meaning_record : (s : Section) → meaning (record_of s) ≡ s
meaning_record s = λ i. record {
  key = s.key;
  count = s.count;
  top = s.top;
  finest = s.finest;
  high = total-split s.high i;
  middle = total-split s.middle i;
  low = total-split s.low i;
}

carry_of_fits : (z : ℤ) → nat_abs z ≤ 2 ^ 71 → SFits w64 (carry_of z)
carry_of_fits (pos n) h = record { sfits = omega arith }
carry_of_fits (negsuc n) h = record { sfits = omega arith }

split_of_in_range : (z : ℤ) → nat_abs z ≤ 2 ^ 71 → TotalInRange (split_of z)
split_of_in_range z h = record { residue = omega (arith, residue_lt z); carry = carry_of_fits z h }

record_of_in_range : (s : Section) → Storable s → FieldsInRange (record_of s)
record_of_in_range s f =
    let p = f.proper in
    let few = f.few in
    record {
      key = p.key;
      count = omega arith;
      top = omega (arith, p.top);
      finest = omega (arith, p.finest);
      high = split_of_in_range s.high (omega (arith, p.high));
      middle = split_of_in_range s.middle (omega (arith, p.middle));
      low = split_of_in_range s.low (omega (arith, p.low));
    }

sound-total : (n : ℕ) (z : ℤ) → nat_abs z ≤ n * level_bound → sound_total n (split_of z) ≡ true
unfolding sound_total
sound-total n z h = rw (lt-ltb (residue_of z) (carry_base) (residue_lt z), total-split z) (le-leb (nat_abs z) (n * level_bound) h)

zero_if_absent : (i t : ℕ) (z : ℤ) → (t < i → z ≡ pos 0) → (leb i t || is_zero (split_of z)) ≡ true
unfolding is_zero
zero_if_absent i t z h = go (dec_le i t)
  where
    go : Dec (i ≤ t) → (leb i t || is_zero (split_of z)) ≡ true
    go (yes l) = rw (le-leb i t l)
    go (no l) = rw (lt-leb i t (omega arith), h (omega arith))

pub sound_record_lem : (s : Section) → Proper s → sound_record (record_of s) ≡ true
unfolding sound_record
sound_record_lem s p =
    rw (
      le-leb 1 s.count p.count,
      le-leb s.top 52 p.top,
      le-leb s.finest highest_power p.finest,
      sound-total s.count s.high p.high,
      sound-total s.count s.middle p.middle,
      sound-total s.count s.low p.low,
      zero_if_absent 1 s.top s.middle p.no_middle,
    )
    (zero_if_absent 2 s.top s.low p.no_low)

-- ---- a whole table
pub records-read : (ts : List Section) (rest : List ℕ) → All Storable ts → records (section_bytes ts ++ rest) (length ts) ≡ map record_of ts
unfolding cells image
records-read [] rest a = refl
records-read (t ∷ ts) rest a =
    ap (cells 64 decode (suc (length ts))) (append_assoc (encode (record_of t)) (section_bytes ts) rest)
    ∙ cells_cons 64 decode (length ts) (encode (record_of t)) (section_bytes ts ++ rest) (length-encode (record_of t))
    ∙ ap₂ ◌∷◌ (decode-encode (record_of t) (record_of_in_range t a.0)) (records-read ts rest a.1)

pub meanings : (ts : List Section) → map meaning (map record_of ts) ≡ ts
meanings [] = refl
meanings (t ∷ ts) = ap₂ ◌∷◌ (meaning_record t) (meanings ts)

pub sections-written : (ts : List Section) (s : List ℕ) → All Storable ts → sections (written ts s) (length ts) ≡ ts
sections-written ts s a = ap (map meaning) (records-read ts (drop (64 * length ts) s) a) ∙ meanings ts

pub length-section_bytes : (ts : List Section) → length (section_bytes ts) ≡ 64 * length ts
length-section_bytes ts = length-image 64 (λ (t : Section). encode (record_of t)) (λ t. length-encode (record_of t)) ts ∙ mul_comm (length ts) 64

pub length-written : (ts : List Section) (s : List ℕ) → length ts ≤ capacity (length s) → length (written ts s) ≡ length s
length-written ts s h =
    length-append (section_bytes ts) (drop (64 * length ts) s)
    ∙ rw (length-section_bytes ts, length-drop (64 * length ts) s) (omega arith)

-- the used bytes of what is written
pub used-written : (ts : List Section) (s : List ℕ) → take (64 * length ts) (written ts s) ≡ section_bytes ts
used-written ts s = take_at (section_bytes ts) (drop (64 * length ts) s) (64 * length ts) (length-section_bytes ts)

-- a longer table written over a shorter one
pub written_over : (ts us : List Section) (s : List ℕ) → length ts ≤ length us → written us (written ts s) ≡ written us s
written_over ts us s h =
    ap (λ (l : List ℕ). section_bytes us ++ l) (drop_past (section_bytes ts) s (64 * length us) (64 * length ts) (length-section_bytes ts) (omega arith))

rising_above : (k : ℕ) (ts : List Section) → Above k (keys_in ts) → rising (k ∷ record_keys (map record_of ts)) ≡ true
unfolding rising
rising_above k [] a = refl
rising_above k (t ∷ ts) a = rw (lt-ltb k t.key a.0) (rising_above t.key ts a.1)

pub rising-records : (ts : List Section) → Rising (keys_in ts) → rising (record_keys (map record_of ts)) ≡ true
unfolding rising
rising-records [] a = refl
rising-records (t ∷ ts) a = rising_above t.key ts a

pub sound-records : (ts : List Section) → All Storable ts → sound_records (map record_of ts) ≡ true
unfolding sound_records
sound-records [] a = refl
sound-records (t ∷ ts) a = rw (sound_record_lem t a.0.proper) (sound-records ts a.1)

pub sound-written : (ts : List Section) (s : List ℕ) → All Storable ts → Rising (keys_in ts) → length ts ≤ capacity (length s) → sound (written ts s) (length ts) ≡ true
unfolding sound
sound-written ts s a r h =
    rw (
      length-written ts s h,
      le-leb (length ts) (capacity (length s)) h,
      records-read ts (drop (64 * length ts) s) a,
      rising-records ts r,
    )
    (sound-records ts a)
