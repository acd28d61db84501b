-- `keep_remaining`: what remains of the records before i stands at the front, and the records from i on are as they were.
use Prim.Native.Nat.{ℕ, ◌*◌, ◌<◌}
use mathlib.Core.Path.{◌≡◌, ◌∙◌, ap}
use mathlib.Core.List.{List}
use native.Mathlib.Omega.{arith}
use lib.Dec.{T}
use Rattle.record.specs.declared.Record.{Record}
use Rattle.record.specs.Layout.{record_at}
use Rattle.record.specs.Sound.{sound}
use Rattle.record.specs.Section.{Section, meaning, record_of, sections}
use Rattle.record.proofs.Found.{sound_record_at}
use Rattle.remove.proofs.Reducing.{left_by, rows_enough, Kept, none_kept, kept-fewer, next-within, next_as_was, next_place, one_kept, one_gone}
use Rattle.remove.proofs.keep_remaining.Goals as goal
use Rattle.remove.proofs.keep_remaining.Goals.{else-x-gt0, then-x-gt0}

-- the record r that was read at i, as it was: what it is, and what is left of it
module _ {s : List ℕ} {g : ℕ} {ps : List Section} {s' : List ℕ} {kept i : ℕ} (sd : T (sound s g)) (k : Kept s g ps s' kept i) (h : i < g) {r : Record} (got : r ≡ record_at s' (i * 64)) where
  read : r ≡ record_at s (i * 64)
  read = got ∙ next_as_was sd k h

  reduced : {x : Record} → x ≡ record_of (left_by ps (meaning r)) → x ≡ record_of (left_by ps (meaning (record_at s (i * 64))))
  reduced e = e ∙ ap (λ (r : Record). record_of (left_by ps (meaning r))) read

pub loop-i-init : goal.loop-i-init
loop-i-init c = none_kept c.args.table.now c.args.g (sections c.args.patch.bytes.now c.args.patch.groups)

pub get-raw-requires : goal.get-raw-requires
get-raw-requires c = next-within c.requires.sound_table c.loop-i.invariant (omega arith)

pub invariant_of-reduce : goal.invariant_of-reduce
invariant_of-reduce c =
    let a = c.args in
    let h : c.loop-i.i < a.g = omega arith in
    record { sound = rw (read c.requires.sound_table c.loop-i.invariant h c.get-raw.ensures) (sound_record_at a.table.now a.g c.loop-i.i c.requires.sound_table h) }

pub reduce-x-requires : goal.reduce-x-requires
reduce-x-requires c =
    let a = c.args in
    let q = c.requires in
    let h : c.loop-i.i < a.g = omega arith in
    rw (read q.sound_table c.loop-i.invariant h c.get-raw.ensures) (rows_enough a.table.now a.g q.sound_table (sections a.patch.bytes.now a.patch.groups) q.enough_rows c.loop-i.i h)

pub put-requires : goal.put-requires
put-requires c = next_place c.requires.sound_table c.loop-i.invariant (omega arith)

pub overflow_add-kept : goal.overflow_add-kept
overflow_add-kept c = omega (arith, kept-fewer c.requires.sound_table c.loop-i.invariant)

pub loop-i-preserved : goal.loop-i-preserved
loop-i-preserved c =
    let h : c.loop-i.i < c.args.g = omega arith in
    let e = reduced c.requires.sound_table c.loop-i.invariant h c.get-raw.ensures c.reduce-x.ensures in
    elim c.if-x-gt0.branch [
      | then-x-gt0 w ↦ one_kept c.requires.sound_table c.loop-i.invariant h e w.if-x-gt0.true (w.table-is ∙ w.put.ensures.0) w.kept-is
      | else-x-gt0 w ↦ one_gone c.requires.sound_table c.loop-i.invariant h e w.if-x-gt0.false w.table-is w.kept-is
    ]
