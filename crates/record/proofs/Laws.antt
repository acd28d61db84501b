-- Laws of records in bytes. The idea: each field is read where it was stored, and the stores of a record, one after the other, are one run.
use Prim.Native.Nat.{ℕ, ◌+◌, ◌-◌, ◌*◌, ◌^◌, ◌<◌, ◌≤◌}
use mathlib.Core.Path.{◌≡◌, sym, ap, ap₂, ◌∙◌}
use mathlib.Core.List.{List, ◌∷◌, ◌++◌, append_assoc}
use mathlib.Core.Bool.{true}
use native.Mathlib.Omega.{arith}
use native.Mathlib.Nat.{add-zero, add_assoc}
use native.Mathlib.Numerals.{add-one}
use borrow.Author.Tests.{le-leb}
use lib.Dec.{leb}
use lib.ListN.{length, get_or, set, take, drop, length-append, length-drop, length-map, get_or-map}
use lib.Seq.{sets, sets-eq, length-take-le, take-add, drop-drop}
use lib.IntN.{ℤ}
use mir.Syntax.{w64}
use mir.Val.{to_z, of_z, SFits}
use mir.ValLaws.{to_z-of_z, of_z-to_z, of_z_fits}
use Rattle.codec.specs.Bytes.{bytes, number_at}
use Rattle.codec.proofs.Laws.{length-bytes, sets_then, number_at-take, number_at-drop, number_at-left, number_at_right, number_at-bytes, sets_swap, AreBytes, drop-bytes, number_at-lt, bytes-number_at}
use Rattle.codec.proofs.Cells.{get_d_cells, cells-sets, map-cells, length-cells, cells-insert}
use Rattle.level.specs.declared.SplitTotal.{SplitTotal}
use Rattle.record.specs.declared.Record.{Record}
use Rattle.record.specs.Layout.{total_at, record_at, encode_total, encode, decode, records}
use Rattle.record.specs.Keys.{record_keys}
use Rattle.record.specs.Section.{meaning, sections}

pub length-encode : (r : Record) → length (encode r) ≡ 64
unfolding encode
length-encode r = simp (length-append, length-bytes)

-- the seven stores of a record are one
pub record_stored : (s : List ℕ) (at : ℕ) (r : Record) {a b c d e f g : List ℕ}
    → a ≡ sets s at (bytes 4 r.key) → b ≡ sets a (at + 4) (bytes 4 r.count) → c ≡ sets b (at + 8) (bytes 4 r.top) → d ≡ sets c (at + 12) (bytes 4 r.finest)
    → e ≡ sets d (at + 16) (encode_total r.high) → f ≡ sets e (at + 32) (encode_total r.middle) → g ≡ sets f (at + 48) (encode_total r.low)
    → g ≡ sets s at (encode r)
unfolding encode
record_stored s at r p q u v x y z =
    let k1 = bytes 4 r.key in
    let k2 = k1 ++ bytes 4 r.count in
    let k3 = k2 ++ bytes 4 r.top in
    let k4 = k3 ++ bytes 4 r.finest in
    let k5 = k4 ++ encode_total r.high in
    let k6 = k5 ++ encode_total r.middle in
    let q2 = sets_then s at 4 k1 (bytes 4 r.count) p (length-bytes 4 r.key) q in
    let q3 = sets_then s at 8 k2 (bytes 4 r.top) q2 (simp (length-append, length-bytes)) u in
    let q4 = sets_then s at 12 k3 (bytes 4 r.finest) q3 (simp (length-append, length-bytes)) v in
    let q5 = sets_then s at 16 k4 (encode_total r.high) q4 (simp (length-append, length-bytes)) x in
    let q6 = sets_then s at 32 k5 (encode_total r.middle) q5 (simp (length-append, length-bytes)) y in
    sets_then s at 48 k6 (encode_total r.low) q6 (simp (length-append, length-bytes)) z

-- a record of a part is a record of the whole
pub decode-part : (s : List ℕ) (a : ℕ) → a + 64 ≤ length s → decode (take 64 (drop a s)) ≡ record_at s a
unfolding decode
decode-part s a h =
    let k : leb 64 (length (drop a s)) ≡ true = le-leb 64 (length (drop a s)) (rw length-drop (omega arith)) in
    simp (number_at-take, number_at-drop, add-zero, add_assoc)

-- every field is in the range of its type
pub record TotalInRange (t : SplitTotal) : Type 0 where
  pub residue : t.residue < 2 ^ 64
  pub carry : SFits w64 t.carry

pub record FieldsInRange (r : Record) : Type 0 where
  pub key : r.key < 2 ^ 32
  pub count : r.count < 2 ^ 32
  pub top : r.top < 2 ^ 32
  pub finest : r.finest < 2 ^ 32
  pub high : TotalInRange r.high
  pub middle : TotalInRange r.middle
  pub low : TotalInRange r.low

carry_read_back : (z : ℤ) → SFits w64 z → to_z w64 (number_at 8 (bytes 8 (of_z w64 z)) 0) ≡ z
carry_read_back z f = ap (to_z w64) (number_at-bytes 8 (of_z w64 z) (of_z_fits w64 z f).fits) ∙ to_z-of_z w64 z f

-- reading back what was put
pub decode-encode : (r : Record) → FieldsInRange r → decode (encode r) ≡ r
unfolding decode encode
decode-encode r h =
    simp (
      number_at-left,
      number_at_right,
      length-append,
      length-bytes,
      number_at-bytes 4 r.key h.key,
      number_at-bytes 4 r.count h.count,
      number_at-bytes 4 r.top h.top,
      number_at-bytes 4 r.finest h.finest,
      number_at-bytes 8 r.high.residue h.high.residue,
      carry_read_back r.high.carry h.high.carry,
      number_at-bytes 8 r.middle.residue h.middle.residue,
      carry_read_back r.middle.carry h.middle.carry,
      number_at-bytes 8 r.low.residue h.low.residue,
      carry_read_back r.low.carry h.low.carry,
    )

module _ (s : List ℕ) (g : ℕ) (fits : g * 64 ≤ length s) where
  pub get_d_records : (i : ℕ) (d : Record) → i < g → get_or (records s g) i d ≡ record_at s (i * 64)
  get_d_records i d h = get_d_cells 64 decode i g s d h ∙ decode-part s (i * 64) (omega arith)

  pub get_d_sections : (i : ℕ) (d : Record) → i < g → get_or (sections s g) i (meaning d) ≡ meaning (record_at s (i * 64))
  get_d_sections i d h = get_or-map meaning (records s g) i d ∙ ap meaning (get_d_records i d h)

  pub records-put : (i : ℕ) (r : Record) → i < g → decode (encode r) ≡ r → records (sets s (i * 64) (encode r)) g ≡ set (records s g) i r
  records-put i r h e = cells-sets 64 decode i g s (encode r) h (length-encode r) fits ∙ ap (set (records s g) i) e

  pub get_d_keys : (i : ℕ) → i < g → get_or (record_keys (records s g)) i 0 ≡ number_at 4 s (i * 64)
  get_d_keys i h =
      ap (λ (l : List ℕ). get_or l i 0) (map-cells 64 decode (λ (r : Record). r.key) g s)
      ∙ get_d_cells 64 (λ (b : List ℕ). (decode b).key) i g s 0 h
      ∙ ap (λ (r : Record). r.key) (decode-part s (i * 64) (omega arith))

pub length-keys : (s : List ℕ) (g : ℕ) → length (record_keys (records s g)) ≡ g
length-keys s g = length-map (records s g) (λ (r : Record). r.key) ∙ length-cells 64 decode g s

-- ---- the used bytes are determined by the records

module _ (b : List ℕ) (h : AreBytes b) where
  join_takes : (n m : ℕ) {x y : List ℕ} → x ≡ take n b → y ≡ take m (drop n b) → x ++ y ≡ take (n + m) b
  join_takes n m p q = ap₂ (λ (u v : List ℕ). u ++ v) p q ∙ sym (take-add n m b)

  carry_bytes : (a : ℕ) → a + 8 ≤ length b → bytes 8 (of_z w64 (to_z w64 (number_at 8 b a))) ≡ take 8 (drop a b)
  carry_bytes a l = ap (bytes 8) (of_z-to_z w64 (number_at 8 b a) (record { fits = number_at-lt 8 a b h })) ∙ bytes-number_at 8 a b l h

total-bytes : (b : List ℕ) (h : AreBytes b) (a : ℕ) → a + 16 ≤ length b → encode_total (total_at b a) ≡ take 16 (drop a b)
total-bytes b h a l =
    join_takes (drop a b) (drop-bytes a b h) 8 8 (bytes-number_at 8 a b (omega arith) h)
    (carry_bytes b h (a + 8) (omega arith) ∙ ap (take 8) (sym (drop-drop 8 a b)))

pub encode-decode : (b : List ℕ) → 64 ≤ length b → AreBytes b → encode (decode (take 64 b)) ≡ take 64 b
unfolding encode
encode-decode b l h =
    let f : (a : ℕ) → a + 4 ≤ length b → bytes 4 (number_at 4 b a) ≡ take 4 (drop a b) = λ a k. bytes-number_at 4 a b k h in
    ap encode (decode-part b 0 l)
    ∙ join_takes b h 48 16 (join_takes b h 32 16 (join_takes b h 16 16 (join_takes b h 12 4 (join_takes b h 8 4 (join_takes b h 4 4
    (f 0 (omega arith)) (f 4 (omega arith))) (f 8 (omega arith))) (f 12 (omega arith)))
    (total-bytes b h 16 (omega arith))) (total-bytes b h 32 (omega arith))) (total-bytes b h 48 (omega arith))

-- ---- the later records moved, and then a new one put

module _ (s : List ℕ) (g i : ℕ) (r : Record) (h : i ≤ g) (fits : g * 64 + 64 ≤ length s) where
  -- the stores of the two steps, as one run
  run : List ℕ
  run = encode r ++ take ((g - i) * 64) (drop (i * 64) s)

  length_run : length run ≡ (g + 1) * 64 - i * 64
  unfolding run
  length_run =
      let k : (g - i) * 64 ≤ length (drop (i * 64) s) = rw length-drop (omega arith) in
      omega (arith, length-append (encode r) (take ((g - i) * 64) (drop (i * 64) s)), length-encode r, length-take-le ((g - i) * 64) (drop (i * 64) s) k)

  pub inserted : {l l' : List ℕ} → l ≡ sets s (i * 64 + 64) (take (g * 64 - i * 64) (drop (i * 64) s)) → l' ≡ sets l (i * 64) (encode r)
      → decode (encode r) ≡ r → records l' (g + 1) ≡ take i (records s g) ++ r ∷ drop i (records s g)
  unfolding run
  inserted {l} {l'} p q e =
      let n : g * 64 - i * 64 ≡ (g - i) * 64 = omega arith in
      let m : l' ≡ sets s (i * 64) run = rw (q, p, n) (sets_swap s (encode r) (take ((g - i) * 64) (drop (i * 64) s)) (i * 64) 64 (length-encode r)) in
      ap₂ (λ (x : ℕ) (y : List ℕ). records y x) (add-one g)
      (m ∙ sets-eq run s (i * 64) (omega (arith, length_run)) ∙ simp append_assoc)
      ∙ cells-insert 64 decode i g s (encode r) (drop (i * 64 + length run) s) h (length-encode r) (omega arith)
      ∙ ap (λ (x : Record). take i (records s g) ++ x ∷ drop i (records s g)) e
