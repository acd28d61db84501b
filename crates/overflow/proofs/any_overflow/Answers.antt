-- `any_overflow`: with few rows a section of the table, else the section of a row.
use Prim.Native.Nat.{◌≤◌}
use mathlib.Core.Path.{◌∙◌}
use mathlib.Core.List.{List}
use Rattle.record.specs.Section.{Section, sections}
use Rattle.lists.proofs.All.{All, all_map}
use Rattle.table.proofs.Bytes.{Storable}
use Rattle.table.proofs.State.{sound_fits, sound-rising}
use Rattle.table.specs.Calls.{most_rows}
use Rattle.overflow.proofs.Counts.{section_overflow, row_overflow}
use Rattle.overflow.proofs.any_overflow.Goals as goal

all-counted : (ts : List Section) → All Storable ts → All (λ (s : Section). 1 ≤ s.count) ts
all-counted = all_map Storable (λ (s : Section). 1 ≤ s.count) (λ s f. f.proper.count)

all-few : (ts : List Section) → All Storable ts → All (λ (s : Section). s.count ≤ most_rows) ts
all-few = all_map Storable (λ (s : Section). s.count ≤ most_rows) (λ s f. f.few)

pub returns-then-keys-le-MOST_ROWS : goal.returns-then-keys-le-MOST_ROWS
returns-then-keys-le-MOST_ROWS c kind vs =
    let t = c.args.t in
    let ts = sections t.bytes.now t.groups in
    let f = sound_fits t.bytes.now t.groups t.sound t.bytes_fit in
    c.section_overflows.ensures ∙ section_overflow kind c.args.keys.now vs ts (all-counted ts f) (sound-rising t.bytes.now t.groups t.sound) c.if-keys-le-MOST_ROWS.true

pub returns : goal.returns
returns c kind vs =
    let t = c.args.t in
    let ts = sections t.bytes.now t.groups in
    let f = sound_fits t.bytes.now t.groups t.sound t.bytes_fit in
    c.row_overflows.ensures ∙ row_overflow kind c.args.keys.now vs ts (all-counted ts f) (sound-rising t.bytes.now t.groups t.sound) (all-few ts f)
