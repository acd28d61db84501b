use Rattle.std.proofs.Common.{◌≡◌, ◌++◌, take}
use Rattle.codec.specs.Cells.{image}
use Rattle.record.specs.Section.{sections}
use Rattle.report.specs.Text.{line_text}
use Rattle.report.proofs.print_sections.Given as goal

-- the lines of the sections so far stand at the end of the text
abbrev pub invariant-loop-i : goal.invariant-loop-i
invariant-loop-i l = l.text ≡ l.initial.text ++ image line_text (take l.i (sections l.t.bytes.now l.t.groups))
