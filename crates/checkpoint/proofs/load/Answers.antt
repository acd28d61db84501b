-- `load`: 1, 2, 3, 19, 16 and 7 are tested in this order, and then the records are copied. The idea: past each test its condition is known not to hold, so each
-- return cites the law of its own number (`load-1` to `load_accepts`).
use Prim.Native.Nat.{◌*◌, ◌≤◌}
use mathlib.Core.Path.{◌≡◌, sym, ap, ◌∙◌}
use mathlib.Core.Bool.{true, false}
use native.Mathlib.Omega.{arith}
use borrow.Author.Tests.{eq-eqb, ne_eqb}
use lib.ListN.{length}
use Rattle.codec.specs.Bytes.{number}
use Rattle.trailer.specs.Trailer.{ends_in}
use Rattle.refusal.specs.Outcome.{accepted}
use Rattle.record.specs.Sound.{sound}
use Rattle.checkpoint.specs.Saved.{table_mark, group_count, wrong_layout}
use Rattle.checkpoint.specs.Calls.{load_outcome}
use Rattle.checkpoint.proofs.Records.{inside}
use Rattle.checkpoint.proofs.Loading.{FileLength, load-1, load-2, load-3, load-19, load-16, load-7, load_accepts, load_untouched, load-leaves}
use Rattle.checkpoint.proofs.load.Goals as goal
use Rattle.checkpoint.proofs.load.Goals.{After-is_sound, After-trailer_field-g, Else-file-lt-TRAILER_LENGTH, Else-not-is_sound, Else-table-g, Else-trailer_field-ne-TABLE_MARK, Else-wrong_layout, Start}

-- past the first two tests the file has a trailer
file-length : (c : Else-file-lt-TRAILER_LENGTH) → FileLength c.args.file.now
file-length c = record { longest = omega arith; shortest = omega arith }

-- past the third it has the mark
marked : (c : Else-trailer_field-ne-TABLE_MARK) → ends_in table_mark c.args.file.now ≡ true
unfolding number
marked c = eq-eqb _ (number table_mark) (sym c.trailer_field.ensures ∙ c.if-trailer_field-ne-TABLE_MARK.false)

-- past the fourth its layout is right
laid_out : (c : Else-wrong_layout) → wrong_layout c.args.file.now ≡ false
laid_out c = sym c.wrong_layout.ensures ∙ c.if-wrong_layout.false

-- there is room for the records
room : (c : Else-table-g) → 64 * group_count c.args.file.now ≤ length c.args.table.now
room c = omega (arith, c.trailer_field-g.ensures)

-- whether they are sound, as the test found it
tested : (c : After-is_sound) → c.is_sound.result ≡ sound c.args.file.now (group_count c.args.file.now)
tested c = c.is_sound.ensures ∙ ap (sound c.args.file.now) c.trailer_field-g.ensures

pub returns-then-file-gt-LONGEST_FILE : goal.returns-then-file-gt-LONGEST_FILE
returns-then-file-gt-LONGEST_FILE c =
    let e = load-1 c.args.file.now (length c.args.table.now) c.if-file-gt-LONGEST_FILE.true in
    record { answer = sym e; content = sym (load_untouched c.args.file.now c.args.table.now e) }

pub returns-then-file-lt-TRAILER_LENGTH : goal.returns-then-file-lt-TRAILER_LENGTH
returns-then-file-lt-TRAILER_LENGTH c =
    let e = load-2 c.args.file.now (length c.args.table.now) c.if-file-lt-TRAILER_LENGTH.true in
    record { answer = sym e; content = sym (load_untouched c.args.file.now c.args.table.now e) }

pub returns-then-trailer_field-ne-TABLE_MARK : goal.returns-then-trailer_field-ne-TABLE_MARK
unfolding number
returns-then-trailer_field-ne-TABLE_MARK c =
    let l = file-length (goal.at.returns-then-trailer_field-ne-TABLE_MARK c).Else-file-lt-TRAILER_LENGTH in
    let e = load-3 c.args.file.now (length c.args.table.now) l (ne_eqb _ (number table_mark) (λ q. c.if-trailer_field-ne-TABLE_MARK.true (c.trailer_field.ensures ∙ q))) in
    record { answer = sym e; content = sym (load_untouched c.args.file.now c.args.table.now e) }

pub returns-then-wrong_layout : goal.returns-then-wrong_layout
returns-then-wrong_layout c =
    let at = goal.at.returns-then-wrong_layout c in
    let e = load-19 c.args.file.now (length c.args.table.now) (file-length at.Else-file-lt-TRAILER_LENGTH) (marked at.Else-trailer_field-ne-TABLE_MARK) (sym c.wrong_layout.ensures ∙ c.if-wrong_layout.true) in
    record { answer = sym e; content = sym (load_untouched c.args.file.now c.args.table.now e) }

pub returns-then-table-g : goal.returns-then-table-g
returns-then-table-g c =
    let at = goal.at.returns-then-table-g c in
    let n : c.trailer_field-g.result ≡ group_count c.args.file.now = c.trailer_field-g.ensures in
    let e = load-16 c.args.file.now (length c.args.table.now) (file-length at.Else-file-lt-TRAILER_LENGTH) (marked at.Else-trailer_field-ne-TABLE_MARK) (laid_out at.Else-wrong_layout) (omega arith) in
    record { answer = sym e; content = sym (load_untouched c.args.file.now c.args.table.now e) }

pub returns-then-not-is_sound : goal.returns-then-not-is_sound
returns-then-not-is_sound c =
    let at = goal.at.returns-then-not-is_sound c in
    let e = load-7 c.args.file.now (length c.args.table.now) (file-length at.Else-file-lt-TRAILER_LENGTH) (marked at.Else-trailer_field-ne-TABLE_MARK) (laid_out at.Else-wrong_layout) (room at.Else-table-g) (sym (tested at.After-is_sound) ∙ c.if-not-is_sound.true) in
    record { answer = sym e; content = sym (load_untouched c.args.file.now c.args.table.now e) }

pub copy-requires : goal.copy-requires
copy-requires c = (omega arith, inside c.args.file.now c.trailer_field-g.result (sym c.is_sound.ensures ∙ c.if-not-is_sound.false))

pub returns : goal.returns
returns c =
    let at = goal.at.returns c in
    let f = c.args.file.now in
    let t = c.args.table.now in
    let accepts : load_outcome f (length t) ≡ accepted c.trailer_field-g.result =
    load_accepts f (length t) (file-length at.Else-file-lt-TRAILER_LENGTH) (marked at.Else-trailer_field-ne-TABLE_MARK) (laid_out at.Else-wrong_layout) (room at.Else-table-g) (sym (tested at.After-is_sound) ∙ c.if-not-is_sound.false)
    ∙ ap accepted (sym c.trailer_field-g.ensures)
    in
    record { answer = sym accepts; content = c.copy.ensures ∙ sym (load-leaves f t accepts) }
