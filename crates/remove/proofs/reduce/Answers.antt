-- `reduce` looks the record's section up in the patch, and takes off what it finds.
use Prim.Native.Nat.{ℕ, ◌*◌, ◌≤◌}
use mathlib.Core.Path.{◌≡◌, sym, ap, ◌∙◌}
use mathlib.Core.List.{List}
use mathlib.Core.Option.{Option, some, none}
use native.Mathlib.Omega.{arith}
use lib.Dec.{T}
use Rattle.record.specs.declared.Record.{Record}
use Rattle.std.specs.Prelude.{Result, Ok}
use Rattle.record.specs.Layout.{records, record_at}
use Rattle.record.specs.Keys.{record_keys, place}
use Rattle.record.specs.Sound.{sound}
use Rattle.record.specs.Section.{Section, sections, meaning, record_of, find}
use Rattle.record.proofs.Found.{found, missing}
use Rattle.table.proofs.State.{record_meaning}
use Rattle.overflow.specs.Counts.{count_of, count_in}
use Rattle.remove.specs.Remaining.{without, without_if}
use Rattle.remove.proofs.reduce.Goals as goal

-- ---- by what is found
module _ (t : Section) {o : Option Section} where
  taken-off : {p : Section} → o ≡ some p → without t p ≡ without_if t o
  unfolding without_if
  taken-off e = rw e

  as_it_was : o ≡ none → t ≡ without_if t o
  unfolding without_if
  as_it_was e = rw e

-- the key k was looked up in the patch, the records in s, and stands at i
module _ (s : List ℕ) (n k i : ℕ) (sd : T (sound s n)) {p : Result ℕ ℕ} (l : p ≡ place k (record_keys (records s n))) (e : p ≡ Ok i) where
  here : find k (sections s n) ≡ some (meaning (record_at s (i * 64)))
  here = (found s n k i sd (sym e ∙ l)).1

  enough : (m : ℕ) → count_in k (sections s n) ≤ m → (record_at s (i * 64)).count ≤ m
  enough m h = omega (arith, ap count_of here)

pub record_without-requires : goal.record_without-requires
record_without-requires c =
    let p = c.args.patch in
    rw c.record.ensures (enough p.bytes.now p.groups c.args.r.raw.key _ p.sound c.locate_in.ensures.place c.in-Ok.is c.args.r.raw.count c.requires)

pub returns-in-Ok : goal.returns-in-Ok
returns-in-Ok c =
    let r = c.args.r.raw in
    let p = c.args.patch in
    c.record_without.ensures
    ∙ ap (λ (x : Record). record_of (without (meaning r) (meaning x))) c.record.ensures
    ∙ ap record_of (taken-off (meaning r) (here p.bytes.now p.groups r.key _ p.sound c.locate_in.ensures.place c.in-Ok.is))

pub returns-in-Err : goal.returns-in-Err
returns-in-Err c =
    let r = c.args.r in
    let p = c.args.patch in
    sym (record_meaning r.raw r.sound)
    ∙ ap record_of (as_it_was (meaning r.raw) (missing p.bytes.now p.groups r.raw.key c.in-Err.i p.sound (sym c.in-Err.is ∙ c.locate_in.ensures.place)))
