-- The report of a file says what its rows fix: an add to an empty table gives the table of the rows.
use Prim.Native.Nat.{ℕ}
use mathlib.Core.Path.{◌≡◌, refl, sym, ap, ap₂, ◌∙◌}
use mathlib.Core.List.{List, [], ◌∷◌, ◌++◌, append-nil}
use native.Mathlib.Nat.{mul-zero}
use lib.IntN.{ℤ}
use lib.ListN.{length, take}
use Rattle.lists.specs.Lists.{any_of}
use Rattle.codec.specs.Cells.{cells, image}
use Rattle.refusal.specs.Outcome.{Outcome, accepted}
use Rattle.refusal.proofs.Outcomes.{not_given, accepted-value}
use Rattle.output.specs.Output.{output_ground}
use Rattle.output.proofs.Outputs.{left_front}
use Rattle.columns.specs.declared.Kind.{Kind}
use Rattle.columns.specs.Columns.{width, rows_from, columns_fit, rows_of}
use Rattle.patch.specs.declared.FileRows.{FileRows}
use Rattle.patch.specs.File.{kind_of, read_outcome, file_outcome, key_column, value_column}
use Rattle.patch.proofs.File.{accepted_only, with_accepted, said_kind, no_rows_columns}
use Rattle.patch.proofs.Columns.{accepted-rows}
use Rattle.record.specs.Keys.{rising}
use Rattle.record.specs.Sound.{sound_records, sound}
use Rattle.table.specs.Combine.{added}
use Rattle.table.specs.Calls.{add_sections, column_grounds, add_grounds, add_outcome}
use Rattle.totals.specs.declared.TableTotals.{TableTotals}
use Rattle.totals.specs.Totals.{row_total}
use Rattle.report.specs.Text.{head_line, line_text, total_line, table_bytes, empty_table, table_text, add_text, columns_text, report_text}
use Rattle.report.specs.Answer.{print_outcome, print_leaves}
use Rattle.report.proofs.Whole.{columns_refused, file-accepted, file-refused}
use Rattle.exports.specs.Calls.{returns_count}
use Rattle.history.specs.Rows.{section_numbers}
use Rattle.history.specs.Canonical.{canonical}
use Rattle.history.proofs.Canonical.{added-canonical}
use Rattle.history.proofs.Totals.{totals-canonical}
use Rattle.conformance.specs.Called.{count_said}
use Rattle.conformance.specs.Reported.{rows_in, add_of, Reported}
use Rattle.conformance.proofs.Steps.{count-back}

-- ---- what is written
printed : (out w : List ℕ) {l : ℕ} → print_outcome out w ≡ accepted l → (length w ≡ l) × (take l (print_leaves out w) ≡ w)
printed out w {l} e =
    let n = accepted-value (output_ground (length out) (length w) ∷ []) (length w) e in
    (n, left_front w out e n)

print_said : (out w : List ℕ) {z : ℤ} → z ≡ returns_count (print_outcome out w) → count_said z ≡ print_outcome out w
print_said out w q = count-back (print_outcome out w) (not_given 0 (output_ground (length out) (length w) ∷ []) (length w) refl) q

-- ---- the sections of an add to the report's empty table
sections-added : (kind : Kind) (ks vs : List ℕ) → add_sections kind empty_table 0 ks vs ≡ canonical (rows_of kind ks vs)
unfolding cells canonical section_numbers
sections-added kind ks vs = added-canonical [] (rows_of kind ks vs)

-- the report of an accepted file, by the kind that its mark says
file_printed : (f : List ℕ) {r : FileRows} → file_outcome f ≡ accepted r → report_text f ≡ columns_text (kind_of f) (key_column (kind_of f) f) (value_column (kind_of f) f)
file_printed f {r} e = file-accepted f r e ∙ ap (λ (kind : Kind). columns_text kind (key_column (kind_of f) f) (value_column (kind_of f) f)) (sym (said_kind f e))

-- and its outcome
file-read : (f : List ℕ) {r : FileRows} → file_outcome f ≡ accepted r → read_outcome (kind_of f) f ≡ accepted r.count
file-read f e = (with_accepted (kind_of f) (read_outcome (kind_of f) f) e).0

table_printed : (f : List ℕ) {r : FileRows} (g : ℕ) → file_outcome f ≡ accepted r → add_of f ≡ accepted g → report_text f ≡ table_text (canonical (rows_in f))
unfolding columns_text add_text
table_printed f g e a =
    let k = kind_of f in
    file_printed f e
    ∙ ap (λ (o : Outcome ℕ). add_text o (add_sections k empty_table 0 (key_column k f) (value_column k f))) a
    ∙ ap table_text (sections-added k (key_column k f) (value_column k f))

-- ---- no rows
none-added : (kind : Kind) → add_outcome kind empty_table 0 [] [] table_bytes ≡ accepted 0
unfolding add_grounds column_grounds sound sound_records rising cells columns_fit rows_of rows_from any_of added
none-added kind = rw (mul-zero (width kind)) refl

no_rows_text : (kind : Kind) (ks vs : List ℕ) → ks ≡ [] → vs ≡ [] → columns_text kind ks vs ≡ head_line ++ total_line (record { groups = 0; count = 0 })
unfolding columns_text add_text table_text image row_total cells rows_of rows_from added
no_rows_text kind ks vs k v =
    ap₂ (columns_text kind) k v
    ∙ ap (λ (o : Outcome ℕ). add_text o (add_sections kind empty_table 0 [] [])) (none-added kind)
    ∙ ap (λ (l : List ℕ). l ++ total_line (record { groups = 0; count = 0 })) (append-nil head_line)

pub reported : Reported
unfolding table_text
reported = record {
  text_written = λ κs a z e l n q.
      let out = a.1.0.now in
      let w = report_text a.0.now in
      let p = printed out w (sym (print_said out w l.0) ∙ q) in
      (p.0, ap (take n) l.1 ∙ p.1);
  of_rows = λ f r g e a. (
    table_printed f g e a ∙ ap (λ (t : TableTotals). head_line ++ image line_text (canonical (rows_in f)) ++ total_line t) (totals-canonical (rows_in f)),
    accepted-rows (kind_of f) f (file-read f e),
  );
  of_no_rows = λ f r e z.
      let k = kind_of f in
      let p = no_rows_columns k f ((accepted_only k f (file-read f e)).row_count_is ∙ z) in
      file_printed f e ∙ no_rows_text k (key_column k f) (value_column k f) p.0 p.1;
  of_refused_file = λ f n e. file-refused f n e;
  of_refused_add = λ f r n e a. file_printed f e ∙ columns_refused (kind_of f) (key_column (kind_of f) f) (value_column (kind_of f) f) n a;
}
