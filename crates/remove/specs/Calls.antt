-- Removal on bytes: the outcome by Card 9's conditions, and the bytes that it leaves.
use Rattle.std.specs.Prelude.{ℕ, ◌*◌, List, [], ◌∷◌, ◌++◌, length, drop, replicate}
use Rattle.refusal.specs.Outcome.{Outcome, accepted, refused, Ground, ground, outcome}
use Rattle.columns.specs.declared.Kind.{Kind}
use Rattle.columns.specs.Columns.{rows_of}
use Rattle.record.specs.Section.{Section, sections, written}
use Rattle.table.specs.Combine.{added}
use Rattle.table.specs.Calls.{column_grounds}
use Rattle.remove.specs.Remaining.{remaining, too_few_rows, raises_top, total_exceeds}

-- the patch's own sections
abbrev pub patch_sections : Kind → List ℕ → List ℕ → List Section
patch_sections kind ks vs = added [] (rows_of kind ks vs)

-- 20, 21 and 22 of a patch with the sections ps and held sections ts, each looked for in all sections before the next
unfoldable pub patch_grounds : List Section → List Section → List Ground
patch_grounds ts ps = ground 20 (too_few_rows ts ps) ∷ ground 21 (raises_top ts ps) ∷ ground 22 (total_exceeds ts ps) ∷ []

-- Card 9's conditions of a removal of two columns from the table of g records in s, with a work buffer of so many bytes, in their order
unfoldable pub remove_grounds : Kind → List ℕ → ℕ → List ℕ → List ℕ → ℕ → List Ground
remove_grounds kind s g ks vs work_len = column_grounds kind s g ks vs work_len ++ patch_grounds (sections s g) (patch_sections kind ks vs)

-- the sections after the removal of all rows
abbrev pub remove_sections : Kind → List ℕ → ℕ → List ℕ → List ℕ → List Section
remove_sections kind s g ks vs = remaining (sections s g) (patch_sections kind ks vs)

-- an accepted removal gives the new group count
abbrev pub remove_outcome : Kind → List ℕ → ℕ → List ℕ → List ℕ → ℕ → Outcome ℕ
remove_outcome kind s g ks vs work_len = outcome (remove_grounds kind s g ks vs work_len) (length (remove_sections kind s g ks vs))

-- the bytes s with zeros in place of g records
abbrev pub zeroed : ℕ → List ℕ → List ℕ
zeroed g s = replicate (64 * g) 0 ++ drop (64 * g) s

-- the bytes s of a table of g records after a removal that would give it the sections ts; what these do not use of the former records is zero
abbrev pub leaves_fewer : Outcome ℕ → List Section → ℕ → List ℕ → List ℕ
leaves_fewer (accepted n) ts g s = written ts (zeroed g s)
leaves_fewer (refused n) ts g s = s

-- the bytes that a removal leaves
abbrev pub remove_leaves : Kind → List ℕ → ℕ → List ℕ → List ℕ → ℕ → List ℕ
remove_leaves kind s g ks vs work_len = leaves_fewer (remove_outcome kind s g ks vs work_len) (remove_sections kind s g ks vs) g s
