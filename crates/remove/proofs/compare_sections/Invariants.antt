use mathlib.Core.Bool.{Bool}
use mathlib.Core.List.{List}
use Rattle.lists.proofs.Scanning.{Undecided, Noted}
use Rattle.record.specs.Section.{Section, sections, find}
use Rattle.remove.specs.Remaining.{has_fewer, has_lower}
use Rattle.remove.proofs.compare_sections.Given as goal

abbrev fewer : List Section → Section → Bool
fewer ts p = has_fewer (find p.key ts) p

abbrev lower : List Section → Section → Bool
lower ts p = has_lower (find p.key ts) p

abbrev pub invariant-loop-i : goal.invariant-loop-i
invariant-loop-i l =
    let ts = sections l.t.bytes.now l.t.groups in
    let ps = sections l.patch.bytes.now l.patch.groups in
    record { none_fewer : Undecided (fewer ts) ps l.i; lower_noted : Noted (lower ts) ps l.i l.any_too_low }
