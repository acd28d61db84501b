-- The whole text by the outcomes of reading and adding, and what a lent buffer holds after it.
use Prim.Native.Nat.{ℕ, ◌≤◌}
use mathlib.Core.Path.{◌≡◌, refl, sym, ap, ◌∙◌}
use mathlib.Core.List.{List, [], ◌∷◌, ◌++◌, append_assoc}
use lib.ListN.{length}
use Rattle.codec.proofs.Laws.{AreBytes}
use Rattle.refusal.specs.Outcome.{accepted, refused}
use Rattle.refusal.proofs.Outcomes.{accepted-within}
use Rattle.output.specs.Output.{output_ground}
use Rattle.columns.specs.declared.Kind.{Kind}
use Rattle.columns.specs.declared.Kind.TheVariants.{Double}
use Rattle.columns.specs.Columns.{as_doubles}
use Rattle.patch.specs.declared.FileRows.{FileRows}
use Rattle.patch.specs.File.{kind_of, file_outcome, key_column, value_column}
use Rattle.patch.proofs.File.{said_kind}
use Rattle.codec.specs.Cells.{image}
use Rattle.record.specs.Section.{Section, sections}
use Rattle.totals.specs.Totals.{table_totals}
use Rattle.table.specs.Calls.{add_sections, add_outcome, add_leaves}
use Rattle.table.proofs.AsDoubles.{made_alike}
use Rattle.table.proofs.Accepted.{AcceptedTable, proper_none, add_left}
use Rattle.report.specs.Text.{table_bytes, refusal_text, line_feed, empty_table, head_line, line_text, total_line, table_text, add_text, columns_text, file_text, report_text}
use Rattle.report.specs.Answer.{print_outcome}

-- what an accepted add to the empty table leaves
pub columns_left : (kind : Kind) (ks vs : List ℕ) (g : ℕ) → AreBytes ks → add_outcome kind empty_table 0 ks vs table_bytes ≡ accepted g
    → AcceptedTable empty_table (add_sections kind empty_table 0 ks vs) (add_leaves kind empty_table 0 ks vs table_bytes) g
columns_left kind ks vs g a e = add_left empty_table 0 (proper_none empty_table) kind ks vs table_bytes a e

pub columns_accepted : (kind : Kind) (ks vs : List ℕ) (g : ℕ) → AreBytes ks → add_outcome kind empty_table 0 ks vs table_bytes ≡ accepted g
    → columns_text kind ks vs ≡ table_text (sections (add_leaves kind empty_table 0 ks vs table_bytes) g)
unfolding columns_text add_text
columns_accepted kind ks vs g a e =
    ap (λ o. add_text o (add_sections kind empty_table 0 ks vs)) e
    ∙ ap table_text (sym (columns_left kind ks vs g a e).has-sections)

pub columns_refused : (kind : Kind) (ks vs : List ℕ) (n : ℕ) → add_outcome kind empty_table 0 ks vs table_bytes ≡ refused n → columns_text kind ks vs ≡ refusal_text n ++ line_feed
unfolding columns_text add_text
columns_refused kind ks vs n e = ap (λ o. add_text o (add_sections kind empty_table 0 ks vs)) e

-- rows of any kind print what the same rows in doubles print
pub columns_alike : (kind : Kind) (ks vs : List ℕ) → columns_text Double ks (as_doubles kind vs) ≡ columns_text kind ks vs
unfolding columns_text add_text
columns_alike kind ks vs = made_alike kind empty_table 0 ks vs table_bytes add_text (λ n ts ts'. refl)

pub file-accepted : (f : List ℕ) (r : FileRows) → file_outcome f ≡ accepted r → report_text f ≡ columns_text r.kind (key_column (kind_of f) f) (value_column (kind_of f) f)
unfolding report_text file_text
file-accepted f r e = ap (λ o. file_text o f) e ∙ ap (λ (kind : Kind). columns_text r.kind (key_column kind f) (value_column kind f)) (sym (said_kind f e))

pub file-refused : (f : List ℕ) (n : ℕ) → file_outcome f ≡ refused n → report_text f ≡ refusal_text n ++ line_feed
unfolding report_text file_text
file-refused f n e = ap (λ o. file_text o f) e

-- the three parts of a table's text, printed one after the other
pub table_parts : (s : List ℕ) (ts : List Section) → s ++ head_line ++ image line_text ts ++ total_line (table_totals ts) ≡ s ++ table_text ts
unfolding table_text
table_parts s ts = simp append_assoc

-- an accepted printing fits
pub printed_fits : (out w : List ℕ) (n : ℕ) → accepted n ≡ print_outcome out w → n ≤ length out
printed_fits out w n e = accepted-within 16 (output_ground (length out) (length w) ∷ []) (length out) (length w) refl (sym e)
