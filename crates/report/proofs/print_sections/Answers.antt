-- `report::print_sections`: one line more in each iteration.
use Rattle.std.proofs.Common.{◌≡◌, suc, ◌*◌, length, take, sym, ap, add-one, append-nil, length-append, arith}
use Rattle.std.proofs.Math.Seq.{take_all}
use Rattle.std.proofs.lemmas.Grind.{common_steps}
use Rattle.codec.specs.Cells.{image}
use Rattle.record.specs.Layout.{record_at}
use Rattle.record.specs.Section.{meaning, sections}
use Rattle.table.proofs.State.{length-sections}
use Rattle.report.specs.Text.{line_text}
use Rattle.report.proofs.Lines.{more_lines, few_lines}
use Rattle.report.proofs.print_sections.Goals as goal

pub loop-i-init : goal.loop-i-init
unfolding image
loop-i-init c = sym (append-nil _)

pub print_section-requires : goal.print_section-requires
print_section-requires c =
    let t = c.args.t in
    let i = c.loop-i.i in
    let before = image line_text (take i (sections t.bytes.now t.groups)) in
    let line = line_text (meaning (record_at t.bytes.now (i * 64))) in
    let more = more_lines t.bytes.now t.groups i t.sound (omega arith) in
    let few = rw more at (few_lines (suc i) (sections t.bytes.now t.groups)) in
    rw c.«record».ensures (omega (arith, few, length-append before line, length-append c.args.text.now before, ap length c.loop-i.invariant))

pub loop-i-preserved : goal.loop-i-preserved
loop-i-preserved c =
    let more = more_lines c.args.t.bytes.now c.args.t.groups c.loop-i.i c.args.t.sound (omega arith) in
    let line = rw c.«record».ensures at c.print_section.ensures in
    rw (add-one, more) (grind (arith, common_steps, line))

pub returns : goal.returns
returns c =
    let all = take_all c.args.t.groups (sections c.args.t.bytes.now c.args.t.groups) (omega (arith, length-sections c.args.t.bytes.now c.args.t.groups)) in
    let done : c.loop-i.i ≡ c.args.t.groups = omega arith in
    rw (done, all) at c.loop-i.invariant
