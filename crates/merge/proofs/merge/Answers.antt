-- `merge` writes where the outcome is accepted.
use native.Mathlib.Omega.{arith}
use Rattle.merge.proofs.Outcome.{accepted_says}
use Rattle.merge.proofs.merge.Goals as goal

pub invariant_of-second_table : goal.invariant_of-second_table
invariant_of-second_table c =
    let w = accepted_says c.args.first.now c.args.g1 c.args.second.now c.args.g2 c.in_ok-united.united c.in_ok-united.ensures in
    record { sound = w.sound₂; bytes_fit = λ i. omega (arith, c.type_inv.second i) }

pub write_union-requires : goal.write_union-requires
write_union-requires c =
    let w = accepted_says c.args.first.now c.args.g1 c.args.second.now c.args.g2 c.in_ok-united.united c.in_ok-united.ensures in
    record { first_sound = w.sound₁; no_overflow = w.no_overflow; union_groups = w.groups; in_bounds = omega (arith, w.groups, w.room) }
