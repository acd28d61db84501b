-- A table that holds the sections of some rows, as document 01 fixes them, answers an add and a merge by those rows, and after them holds the rows
-- that the call leaves. The idea: of an accepted call the laws of `table` speak (`add_left`, `merge-left`), and the sections that it leaves are those of all rows.
use Prim.Native.Nat.{ℕ, ◌≤◌}
use mathlib.Core.Path.{◌≡◌, refl, sym, ◌∙◌, ap, ap₂, subst}
use mathlib.Core.Bool.{true}
use mathlib.Core.List.{List, [], ◌++◌}
use lib.Dec.{T, ltb}
use lib.Pow.{are_bytes}
use lib.Ieee.Bits.{is_true}
use lib.ListN.{length, length-map}
use Rattle.codec.specs.Cells.{cells, image}
use Rattle.codec.proofs.Laws.{are_bytes_lem}
use Rattle.refusal.specs.Outcome.{Outcome, accepted, refused}
use Rattle.columns.specs.declared.Kind.{Kind}
use Rattle.columns.specs.Columns.{Row, rows_of}
use Rattle.record.specs.Layout.{capacity}
use Rattle.record.specs.Sound.{sound}
use Rattle.record.specs.Section.{Section, sections, written, section_at_top, section_of}
use Rattle.table.specs.Combine.{added, merged}
use Rattle.table.specs.Calls.{overflows, leaves, add_sections, column_grounds, add_grounds, add_outcome, merge_sections, merge_grounds, merge_outcome}
use Rattle.lists.specs.Lists.{any_of}
use Rattle.lists.proofs.Any.{any_map}
use Rattle.table.proofs.Lookup.{merged-length}
use Rattle.table.proofs.Bytes.{written_over}
use Rattle.table.proofs.Accepted.{ProperTable, proper_none, AcceptedTable, add_left, merge-left}
use Rattle.history.specs.Rows.{section_bits, section_numbers}
use Rattle.history.specs.Canonical.{canonical}
use Rattle.history.specs.Calls.{too_many_rows, too_many_keys, add_rows_grounds, add_rows_outcome, merge_rows_grounds, merge_rows_outcome, extended}
use Rattle.history.specs.Run.{Store, after, after_add, after_merge}
use Rattle.history.proofs.Canonical.{added-canonical, merged-canonical}

-- ---- 11 and 12 on the sections of rows
pub overflows-canonical : (rows : List Row) → any_of overflows (canonical rows) ≡ too_many_rows rows
unfolding too_many_rows canonical section_at_top
overflows-canonical rows = any_map overflows (λ k. section_of k (section_bits k rows)) (section_numbers rows)

pub length-canonical : (rows : List Row) → length (canonical rows) ≡ length (section_numbers rows)
unfolding canonical
length-canonical rows = length-map (section_numbers rows) (λ k. section_of k (section_bits k rows))

pub room_canonical : (len : ℕ) (rows : List Row) → ltb (capacity len) (length (canonical rows)) ≡ too_many_keys len rows
unfolding too_many_keys
room_canonical len rows = rw (length-canonical rows)

canonical_longer : (rows new : List Row) → length (canonical rows) ≤ length (canonical (rows ++ new))
canonical_longer rows new = subst (λ (ts : List Section). length (canonical rows) ≤ length ts) (merged-canonical rows new) (merged-length (canonical rows) (canonical new))

-- ---- a table and its rows

-- the table t, in a buffer that held the bytes `initial`, holds these rows
pub record HoldsRows (initial : List ℕ) (t : Store) (rows : List Row) : Type 0 where
  pub table : ProperTable t.buffer t.groups
  pub has-sections : sections t.buffer t.groups ≡ canonical rows
  pub groups : t.groups ≡ length (canonical rows)
  pub buffer : t.buffer ≡ written (canonical rows) initial
  pub same_length : length t.buffer ≡ length initial

pub holds-none : (initial : List ℕ) → HoldsRows initial (record { buffer = initial; groups = 0 }) []
unfolding canonical section_numbers image cells
holds-none initial = record { table = proper_none initial; has-sections = refl; groups = refl; buffer = refl; same_length = refl }

module _ (initial : List ℕ) (t : Store) (rows : List Row) (h : HoldsRows initial t rows) where
  pub sound_is : sound t.buffer t.groups ≡ true
  sound_is = is_true (sound t.buffer t.groups) h.table.is_sound_lem

  -- a call that would give it the sections of its rows and of new ones: accepted it holds all of them, refused what it held
  after_holds : (new : List Row) (ts : List Section) → ts ≡ canonical (rows ++ new) → (o : Outcome ℕ)
      → ((n : ℕ) → o ≡ accepted n → AcceptedTable t.buffer ts (leaves o ts t.buffer) n)
      → HoldsRows initial (after o (leaves o ts t.buffer) t.groups) (extended o rows new)
  after_holds new ts e (accepted n) f =
      let l = f n refl in
      record {
        table = l.table;
        has-sections = l.has-sections ∙ e;
        groups = sym l.groups ∙ ap length e;
        buffer = ap₂ written e h.buffer ∙ written_over (canonical rows) (canonical (rows ++ new)) initial (canonical_longer rows new);
        same_length = l.same_length ∙ h.same_length;
      }
  after_holds new ts e (refused n) f = h

  module _ (kind : Kind) (ks vs : List ℕ) (work_len : ℕ) where
    pub add-outcome : add_outcome kind t.buffer t.groups ks vs work_len ≡ add_rows_outcome kind (length initial) rows ks vs work_len
    unfolding add_grounds column_grounds add_rows_grounds
    add-outcome =
        rw (
          sound_is,
          h.has-sections,
          h.same_length,
          added-canonical rows (rows_of kind ks vs),
          overflows-canonical (rows ++ rows_of kind ks vs),
          room_canonical (length initial) (rows ++ rows_of kind ks vs),
          length-canonical (rows ++ rows_of kind ks vs),
        )

    pub add_holds : T (are_bytes ks)
        → HoldsRows initial (after_add kind t ks vs work_len) (extended (add_rows_outcome kind (length initial) rows ks vs work_len) rows (rows_of kind ks vs))
    add_holds b =
        subst (λ (o : Outcome ℕ). HoldsRows initial (after_add kind t ks vs work_len) (extended o rows (rows_of kind ks vs))) add-outcome
        (after_holds (rows_of kind ks vs) (add_sections kind t.buffer t.groups ks vs)
        (ap (λ (ts : List Section). added ts (rows_of kind ks vs)) h.has-sections ∙ added-canonical rows (rows_of kind ks vs))
        (add_outcome kind t.buffer t.groups ks vs work_len)
        (λ n. add_left t.buffer t.groups h.table kind ks vs work_len (are_bytes_lem ks b)))

  module _ (initial' : List ℕ) (u : Store) (others : List Row) (g : HoldsRows initial' u others) where
    pub merge-outcome : merge_outcome t.buffer t.groups u.buffer u.groups ≡ merge_rows_outcome (length initial) rows others
    unfolding merge_grounds merge_rows_grounds
    merge-outcome =
        rw (
          sound_is,
          is_true (sound u.buffer u.groups) g.table.is_sound_lem,
          h.has-sections,
          g.has-sections,
          h.same_length,
          merged-canonical rows others,
          overflows-canonical (rows ++ others),
          room_canonical (length initial) (rows ++ others),
          length-canonical (rows ++ others),
        )

    pub merge-holds : HoldsRows initial (after_merge t u) (extended (merge_rows_outcome (length initial) rows others) rows others)
    merge-holds =
        subst (λ (o : Outcome ℕ). HoldsRows initial (after_merge t u) (extended o rows others)) merge-outcome
        (after_holds others (merge_sections t.buffer t.groups u.buffer u.groups)
        (ap₂ merged h.has-sections g.has-sections ∙ merged-canonical rows others)
        (merge_outcome t.buffer t.groups u.buffer u.groups)
        (λ n. merge-left t.buffer t.groups h.table u.buffer u.groups g.table))
