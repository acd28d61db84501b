-- The report of a file is at most 4,096 bytes long: its head line has 34, each of at most 64 lines at most 58, and the total line at most 48.
use Prim.Native.Nat.{ℕ, ◌*◌, ◌^◌, ◌<◌, ◌≤◌}
use mathlib.Core.Path.{◌≡◌, refl}
use mathlib.Core.Bool.{false}
use mathlib.Core.List.{List, [], ◌∷◌, ◌++◌}
use mathlib.Core.Option.{some}
use native.Mathlib.Omega.{arith}
use borrow.Author.Tests.{ltb-false}
use lib.Dec.{lit≤}
use lib.IntN.{ℤ, nat_abs}
use lib.Ieee.{Float, binary64, to_bits}
use lib.ListN.{length, length-append}
use Rattle.codec.specs.Cells.{image}
use Rattle.codec.proofs.Laws.{AreBytes}
use Rattle.refusal.specs.Outcome.{Outcome, accepted, refused}
use Rattle.refusal.proofs.Outcomes.{accepted_not, accepted-value, refused-below}
use Rattle.lists.proofs.All.{All}
use Rattle.columns.specs.declared.Kind.{Kind}
use Rattle.patch.specs.declared.FileRows.{FileRows}
use Rattle.patch.specs.File.{row_count, kind_of, read_grounds, read_outcome, file_outcome, key_column, value_column}
use Rattle.patch.proofs.File.{key-bytes, said_refused}
use Rattle.record.specs.Section.{Section}
use Rattle.table.specs.Calls.{column_grounds, add_grounds, add_sections, add_outcome}
use Rattle.table.proofs.Bytes.{Storable}
use Rattle.totals.specs.Totals.{row_total, table_totals}
use Rattle.totals.proofs.Rows.{row-total-bound}
use Rattle.std.specs.declared.cmp.Ordering.{Ordering}
use Rattle.std.specs.declared.cmp.Ordering.TheVariants.{Less, Equal, Greater}
use Rattle.limbs.specs.Side.{side_number}
use Rattle.finish.specs.Figure.{largest_figure, beyond}
use Rattle.finish.specs.declared.RoundedSum.{RoundedSum}
use Rattle.finish.specs.Finish.{sum_for, figure_for, sum_grounds, figure_grounds, sum_of, figure_of}
use Rattle.numerals.specs.Numerals.{decimal_in, decimal, integer, hexadecimal}
use Rattle.numerals.specs.Steps.{longest_integer}
use Rattle.numerals.proofs.Size.{length-decimal, length_u64, length-integer, length-hexadecimal}
use Rattle.report.specs.Text.{space, line_feed, head_line, refusal_text, figure_fields, last_fields, line_with, line_text, total_line, table_text, table_bytes, empty_table, add_text, columns_text, file_text, report_text}
use Rattle.report.specs.Steps.{longest_side, longest_refusal, longest_refused_fields, longest_line, longest_total_line, longest_text}
use Rattle.report.proofs.Whole.{columns_left}

-- ---- one line
length-figure : (z : ℤ) → beyond z ≡ false → length (integer z) ≤ longest_integer
unfolding beyond
length-figure z e = length-integer z (omega (arith, ltb-false largest_figure (nat_abs z) e))

length-side : (d : Ordering) → length (integer (side_number d)) ≤ longest_side
unfolding integer decimal decimal_in
length-side Less = lit≤ tt
length-side Equal = lit≤ tt
length-side Greater = lit≤ tt

length-refusal : (n : ℕ) → n < 2 ^ 32 → length (refusal_text n) ≤ longest_refusal
unfolding refusal_text
length-refusal n h = omega (arith, length-decimal n h)

-- an accepted figure is in range
figure_in_range : (s : Section) (z : ℤ) → figure_of (some s) ≡ accepted z → beyond z ≡ false
figure_in_range s z e = rw (← accepted-value (figure_grounds s) (figure_for s) e) (accepted_not 15 (figure_grounds s) (figure_for s) e)

length_last : (s : Section) → length (last_fields (sum_of (some s)) (figure_of (some s))) ≤ longest_refused_fields
unfolding last_fields figure_fields
length_last s = by (sum_of (some s)) (figure_of (some s)) refl refl
  where
    after-bits : (x : Float) (l : List ℕ) → length l ≤ longest_refusal → length (hexadecimal (to_bits binary64 x) ++ space ++ l) ≤ longest_refused_fields
    after-bits x l h = simp length-append (omega (arith, length-hexadecimal (to_bits binary64 x)))

    after-figure : (z : ℤ) (d : Ordering) → beyond z ≡ false → length (integer z ++ space ++ integer (side_number d)) ≤ longest_refusal
    after-figure z d e = simp length-append (omega (arith, length-figure z e, length-side d))

    by : (o : Outcome RoundedSum) (f : Outcome ℤ) → sum_of (some s) ≡ o → figure_of (some s) ≡ f → length (last_fields o f) ≤ longest_refused_fields
    by (refused n) f d e = omega (arith, length-refusal n (omega (arith, refused-below 100 (sum_grounds s) (sum_for s) refl d)))
    by (accepted x) (refused n) d e = after-bits x.sum (refusal_text n) (length-refusal n (omega (arith, refused-below 100 (figure_grounds s) (figure_for s) refl e)))
    by (accepted x) (accepted z) d e = after-bits x.sum (integer z ++ space ++ integer (side_number x.side)) (after-figure z x.side (figure_in_range s z e))

length-line : (s : Section) → Storable s → length (line_text s) ≤ longest_line
unfolding line_text line_with
length-line s f = simp length-append (omega (arith, length-decimal s.key f.proper.key, length-decimal s.count (omega (arith, f.few)), length_last s))

length-lines : (ts : List Section) → All Storable ts → length (image line_text ts) ≤ longest_line * length ts
unfolding image
length-lines [] a = omega arith
length-lines (t ∷ ts) a = simp length-append (omega (arith, length-line t a.0, length-lines ts a.1))

-- each row count has 32 bits, and there are fewer than 2^32 of them
length-totals : (ts : List Section) → All Storable ts → length ts < 2 ^ 32 → length (total_line (table_totals ts)) ≤ longest_total_line
unfolding total_line
length-totals ts a h = simp length-append (omega (arith, length_u64 (length ts) (omega arith), length_u64 (row_total ts) (omega (arith, row-total-bound ts a))))

-- ---- the whole text
length-refused : (n : ℕ) → n < 100 → length (refusal_text n ++ line_feed) ≤ longest_text
length-refused n h = simp length-append (omega (arith, length-refusal n (omega arith)))

add-number : (kind : Kind) (ks vs : List ℕ) {n : ℕ} → add_outcome kind empty_table 0 ks vs table_bytes ≡ refused n → n < 100
unfolding add_grounds column_grounds
add-number kind ks vs e = refused-below 100 (add_grounds kind empty_table 0 ks vs table_bytes) (length (add_sections kind empty_table 0 ks vs)) refl e

read_number : (kind : Kind) (f : List ℕ) {n : ℕ} → read_outcome kind f ≡ refused n → n < 100
unfolding read_outcome read_grounds
read_number kind f e = refused-below 100 (read_grounds kind f) (row_count f) refl e

length_columns : (kind : Kind) (ks vs : List ℕ) → AreBytes ks → length (columns_text kind ks vs) ≤ longest_text
unfolding columns_text add_text table_text head_line
length_columns kind ks vs b = by (add_outcome kind empty_table 0 ks vs table_bytes) refl
  where
    ts : List Section
    ts = add_sections kind empty_table 0 ks vs

    by : (o : Outcome ℕ) → add_outcome kind empty_table 0 ks vs table_bytes ≡ o → length (add_text o ts) ≤ longest_text
    by (accepted g) e =
        let l = columns_left kind ks vs g b e in
        let room : g ≤ 64 = l.room in
        let all : All Storable ts = rw (← l.has-sections) l.table.storable in
        simp length-append (omega (arith, l.groups, length-lines ts all, length-totals ts all (omega (arith, l.groups))))
    by (refused n) e = length-refused n (add-number kind ks vs e)

pub length-report : (f : List ℕ) → AreBytes f → length (report_text f) ≤ longest_text
unfolding report_text file_text
length-report f b = by (file_outcome f) refl
  where
    by : (o : Outcome FileRows) → file_outcome f ≡ o → length (file_text o f) ≤ longest_text
    by (accepted r) e = length_columns r.kind (key_column r.kind f) (value_column r.kind f) (key-bytes r.kind f b)
    by (refused n) e = length-refused n (read_number (kind_of f) f ((said_refused f n).0 e))
