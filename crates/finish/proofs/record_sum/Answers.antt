-- The distance of the biased totals from their biases is the size of the kept value with its sign; its bits are the sum's.
use mathlib.Core.Path.{sym, ◌∙◌}
use native.Mathlib.Omega.{arith}
use borrow.Author.Rules.{rules}
use borrow.Author.Tests.{eqb-true}
use Rattle.record.proofs.Parts.{sound_record_parts, total_range}
use Rattle.limbs.specs.Limbs.{value_of}
use Rattle.finish.proofs.Distance.{whole_units, sum_of_none, sum_of_units}
use Rattle.finish.proofs.record_sum.Goals as goal

pub biased_limbs-requires : goal.biased_limbs-requires
biased_limbs-requires c =
    let r = c.args.r.raw in
    let p = sound_record_parts r c.args.r.sound in
    record { high_in_range = total_range r.count r.high p.high (search rules); middle_in_range = total_range r.count r.middle p.middle (search rules); low_in_range = total_range r.count r.low p.low (search rules) }

pub returns-then-is_zero : goal.returns-then-is_zero
returns-then-is_zero c =
    let d = c.signed_difference-d in
    sum_of_none c.args.r d.result (search rules) c.biased_limbs.ensures c.bias_limbs.ensures d.ensures
    (eqb-true (value_of d.result.magnitude.limbs) 0 (sym c.is_zero.ensures ∙ c.if-is_zero.true))

pub nearest_bits-rounding-requires-clause-scale : goal.nearest_bits-rounding-requires-clause-scale
nearest_bits-rounding-requires-clause-scale c = omega (arith, (sound_record_parts c.args.r.raw c.args.r.sound).top)

pub nearest_bits-rounding-requires-clause-whole_units : goal.nearest_bits-rounding-requires-clause-whole_units
nearest_bits-rounding-requires-clause-whole_units c =
    let d = c.signed_difference-d in
    whole_units c.args.r d.result (search rules) c.biased_limbs.ensures c.bias_limbs.ensures d.ensures

pub returns : goal.returns
returns c =
    let d = c.signed_difference-d in
    let n = c.nearest_bits-rounding in
    c.sum_of_bits.ensures
    ∙ rw (n.ensures.nearest, n.ensures.side) (sum_of_units c.args.r d.result (search rules) c.biased_limbs.ensures c.bias_limbs.ensures d.ensures)
