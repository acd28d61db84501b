-- The calls on a file say what their contracts say, the parts that the reader hands back stand where their columns start, and a file that is written is read with
-- the same columns. The idea: a number that is returned gives the outcome back, and of an accepted outcome the laws of the file speak.
use Prim.Native.Nat.{ℕ, ◌+◌, ◌-◌, ◌*◌, ◌<◌}
use mathlib.Core.Path.{◌≡◌, refl, sym, ap, ap₂, ◌∙◌}
use mathlib.Core.List.{List}
use native.Mathlib.Omega.{arith}
use lib.IntN.{ℤ}
use lib.ListN.{length, take, drop}
use Rattle.refusal.specs.Outcome.{Outcome, accepted, refused}
use Rattle.refusal.proofs.Outcomes.{not_given}
use Rattle.columns.specs.declared.Kind.{Kind}
use Rattle.columns.specs.declared.Kind.TheVariants.{Double}
use Rattle.columns.specs.Columns.{width, column_row_count}
use Rattle.patch.specs.declared.FileRows.{FileRows}
use Rattle.patch.specs.File.{kind_of, read_outcome, with_kind, file_outcome, key_column, value_column, column, column_start, key_distance, value_distance, address_after}
use Rattle.patch.specs.Serializer.{file_length, write_grounds, write_outcome}
use Rattle.patch.proofs.WriteOutcome.{write_then_read, write_then_keys, write_then_values, bytes_after}
use Rattle.patch.proofs.File.{accepted_said}
use Rattle.exports.specs.Calls.{returned, returns_count, writes}
use Rattle.exports.specs.Width.{kind_of_width}
use Rattle.exports.proofs.Widths.{width_back}
use Rattle.conformance.specs.Called.{count_said}
use Rattle.conformance.specs.Exported.{Exported}
use Rattle.conformance.specs.Files.{Files}
use Rattle.conformance.specs.Parts.{Parts}
use Rattle.conformance.proofs.Steps.{count-back, read_not_0}

-- a column that starts past the front does not stand at the front's place
not_in_front : (o : Outcome ℕ) (d : ℕ) (f : List ℕ) (p : ℕ × ℕ) → o ≡ accepted 0 → d < length f → address_after p (column_start o d f) ≡ p → ⊥
unfolding column_start
not_in_front o d f p r h q =
    let e : column_start o d f ≡ length f - d = ap (λ (x : Outcome ℕ). column_start x d f) r in
    let s : column_start o d f + p.1 ≡ p.1 = ap (λ (x : ℕ × ℕ). x.1) q in
    omega arith

pub parts : Parts
parts = record {
  of_keys = λ κs a z e l. l;
  of_values = λ κs a z e l. l;
  keys_not_in_front = λ κs a z e l r h q. not_in_front (read_outcome (kind_of a.0.now) a.0.now) (key_distance a.0.now) a.0.now a.0.ref_ptr r h (sym l.1 ∙ q);
  values_not_in_front = λ κs a z e l r h q. not_in_front (read_outcome (kind_of a.0.now) a.0.now) (value_distance a.0.now) a.0.now a.0.ref_ptr r h (sym l.1 ∙ q);
}

-- a file's count is returned as it is, whatever its kind
counted : (kind : Kind) (o : Outcome ℕ) → returned (λ (x : FileRows). x.count) (with_kind kind o) ≡ returns_count o
counted kind (accepted n) = refl
counted kind (refused r) = refl

-- the number that the reader returns says its outcome
read_said : (f : List ℕ) {z : ℤ} → z ≡ returned (λ (x : FileRows). x.count) (file_outcome f) → count_said z ≡ read_outcome (kind_of f) f
read_said f q = count-back (read_outcome (kind_of f) f) (read_not_0 (kind_of f) f) (q ∙ counted (kind_of f) (read_outcome (kind_of f) f))

-- the width that it writes out for an accepted file is that of the kind
width_said : (kind : Kind) {o : Outcome ℕ} {w n : ℕ} → w ≡ writes 0 (λ (x : FileRows). width x.kind) (with_kind kind o) → o ≡ accepted n → w ≡ width kind
width_said kind q e = q ∙ ap (λ (o : Outcome ℕ). writes 0 (λ (x : FileRows). width x.kind) (with_kind kind o)) e

-- the column of an accepted file stands where it starts
column_there : (kind : Kind) (cell n d : ℕ) (f : List ℕ) → read_outcome kind f ≡ accepted n → take (cell * n) (drop (column_start (read_outcome kind f) d f) f) ≡ column (read_outcome kind f) cell d f
unfolding column column_start
column_there kind cell n d f e = rw e

-- and the number that the writer returns
write_said : (ks vs : List ℕ) (out_len : ℕ) {z : ℤ} → z ≡ returns_count (write_outcome ks vs out_len) → count_said z ≡ write_outcome ks vs out_len
unfolding write_outcome write_grounds
write_said ks vs out_len q = count-back (write_outcome ks vs out_len) (not_given 0 (write_grounds ks vs out_len) (file_length Double (column_row_count ks)) refl) q

pub files : Files
unfolding key_column value_column
files = record {
  of_read = λ κs a z e l. l;
  of_key_start = λ κs a z e l. l;
  of_value_start = λ κs a z e l. l;
  of_girth_read = λ κs a z e l. (l.0, l.1.0, l.1.1.0, l.1.1.1);
  columns_there = λ κs a z e l n q.
      let f = a.0.now in
      let k = kind_of f in
      let o = sym (read_said f l.0) ∙ q in
      let w = width_said k l.1.1.1 o in (
        ap (λ (i : ℕ). take (4 * n) (drop i f)) l.1.0 ∙ column_there k 4 n (key_distance f) f o,
        ap₂ (λ (c i : ℕ). take (c * n) (drop i f)) w l.1.1.0 ∙ column_there k (width k) n (value_distance f) f o,
        ap kind_of_width w ∙ width_back k,
      );
  of_write = λ κs a z e l. l;
  of_girth_write = λ κs a z e l. l;
  columns_back = λ κs a z e c l q.
      let ks = a.0.now in
      let vs = a.1.0.now in
      let out = a.1.1.0.now in
      let o = sym (write_said ks vs (length out) c.0) ∙ q in
      rw c.1 (accepted_said Double _ (write_then_read ks vs out o), write_then_keys ks vs out o, write_then_values ks vs out o, bytes_after ks vs out o);
  of_report = λ κs a z e l. l;
  of_girth_report = λ κs a z e l. l;
}

pub exported : Exported
exported = record {
  of_girth_sum = λ κs a z e l. (l.0, l.1.0, l.1.1);
  of_girth_figure = λ κs a z e l. l;
  of_girth_line = λ κs a z e l. (l.0, l.1.0, l.1.1.0, l.1.1.1.0, l.1.1.1.1);
  of_girth_exact = λ κs a z e l. l;
  of_girth_totals = λ κs a z e l. (l.0, l.1.0, l.1.1);
}
