-- `total_without` subtracts what the two records hold at the level.
use Rattle.soundness.specs.declared.sound.SoundRecord.{SoundRecord}
use Prim.Native.Nat.{ℕ, ◌-◌, ◌≤◌}
use mathlib.Core.Path.{◌≡◌, ap, ap₂, ◌∙◌}
use native.Mathlib.Omega.{arith}
use borrow.Author.Rules.{rules}
use borrow.Author.Tests.{le-leb}
use lib.IntN.{◌-ℤ◌}
use Rattle.level.specs.Carry.{split_of, total_of}
use Rattle.record.proofs.Parts.{sound_record_parts}
use Rattle.table.specs.Steps.{split_in}
use Rattle.table.proofs.Totals.{split_level, split_in_in_range}
use Rattle.remove.proofs.total_without.Goals as goal

-- its levels are within the table's
level-within : (r : SoundRecord) (d : ℕ) → r.raw.top - d ≤ 52
level-within r d = omega (arith, (sound_record_parts r.raw r.sound).top)

pub split_in-requires : goal.split_in-requires
split_in-requires c = level-within c.args.r c.args.d

pub split_in-requires-2 : goal.split_in-requires-2
split_in-requires-2 c = level-within c.args.r c.args.d

pub subtract_totals-requires : goal.subtract_totals-requires
subtract_totals-requires c =
    let j = c.args.r.raw.top - c.args.d in
    let x = split_in_in_range c.args.r.raw j (search rules) c.args.r.sound in
    let y = split_in_in_range c.args.p.raw j (search rules) c.args.p.sound in
    rw (c.split_in.ensures, c.split_in-2.ensures) (omega arith, omega arith, omega arith, omega arith)

pub returns : goal.returns
returns c =
    let j = c.args.r.raw.top - c.args.d in
    let x : c.split_in.result ≡ split_in c.args.r.raw j = c.split_in.ensures in
    let y : c.split_in-2.result ≡ split_in c.args.p.raw j = c.split_in-2.ensures in
    rw (le-leb c.args.d c.args.r.raw.top (omega arith))
    (c.subtract_totals.ensures ∙ ap split_of (ap₂ ◌-ℤ◌ (ap total_of x ∙ split_level c.args.r.raw j) (ap total_of y ∙ split_level c.args.p.raw j)))
