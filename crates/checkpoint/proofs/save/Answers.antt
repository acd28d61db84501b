-- `save`: 7, 18 and 16 are tested in this order, and then the records and the trailer are put in place.
use mathlib.Core.Path.{◌≡◌, sym, ap, ◌∙◌}
use mathlib.Core.Bool.{true, not}
use native.Mathlib.Omega.{arith}
use borrow.Author.Tests.{not-true, not-false}
use lib.ListN.{length}
use Rattle.codec.specs.Bytes.{bytes}
use Rattle.record.specs.Sound.{sound}
use Rattle.checkpoint.proofs.Records.{inside}
use Rattle.checkpoint.proofs.Saving.{save-7, save-18, save-16, save_accepts, save_untouched, save-leaves, saved_set}
use Rattle.checkpoint.proofs.save.Goals as goal
use Rattle.checkpoint.proofs.save.Goals.{Else-not-is_sound}

-- past the first test the table is sound
sound_here : (c : Else-not-is_sound) → sound c.args.table.now c.args.g ≡ true
sound_here c = sym c.is_sound.ensures ∙ not-false c.is_sound.result (ap not c.if-not-is_sound.false)

pub returns-then-not-is_sound : goal.returns-then-not-is_sound
returns-then-not-is_sound c =
    let a = c.args in
    let e = save-7 a.table.now a.g (length a.out.now) (sym c.is_sound.ensures ∙ not-true c.is_sound.result (ap not c.if-not-is_sound.true)) in
    record { answer = sym e; content = sym (save_untouched a.table.now a.g a.out.now e) }

pub returns-then-g-gt-MOST_FILE_GROUPS : goal.returns-then-g-gt-MOST_FILE_GROUPS
returns-then-g-gt-MOST_FILE_GROUPS c =
    let a = c.args in
    let many = c.if-g-gt-MOST_FILE_GROUPS.true in
    let e = save-18 a.table.now a.g (length a.out.now) (sound_here (goal.at.returns-then-g-gt-MOST_FILE_GROUPS c).Else-not-is_sound) (omega arith) in
    record { answer = sym e; content = sym (save_untouched a.table.now a.g a.out.now e) }

pub returns-then-out-len : goal.returns-then-out-len
returns-then-out-len c =
    let a = c.args in
    let e = save-16 a.table.now a.g (length a.out.now) (sound_here (goal.at.returns-then-out-len c).Else-not-is_sound) c.if-g-gt-MOST_FILE_GROUPS.false c.if-out-len.true in
    record { answer = sym e; content = sym (save_untouched a.table.now a.g a.out.now e) }

pub copy-requires : goal.copy-requires
copy-requires c = (omega arith, inside c.args.table.now c.args.g (sound_here (goal.at.copy-requires c).Else-not-is_sound))

pub returns : goal.returns
unfolding bytes
returns c =
    let s = c.args.table.now in
    let g = c.args.g in
    let out = c.args.out.now in
    let ok = sound_here (goal.at.returns c).Else-not-is_sound in
    let o = save_accepts s g (length out) ok c.if-g-gt-MOST_FILE_GROUPS.false c.if-out-len.false in
    record { answer = sym o; content = saved_set s g ok out c.copy.new.d c.put_trailer.new.out c.if-out-len.false c.copy.ensures c.put_trailer.ensures ∙ sym (save-leaves s g out o) }
