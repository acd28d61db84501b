use Rattle.finish.proofs.Sums.{plain_number, negative-number}
use Rattle.finish.proofs.sum_of_bits.Goals as goal

pub float_from_bits-result : goal.float_from_bits-result
float_from_bits-result c = rw c.set_sign.ensures (negative-number c.args.unsigned c.if-unsigned.false)

pub float_from_bits-result-2 : goal.float_from_bits-result-2
float_from_bits-result-2 c = plain_number c.args.unsigned c.if-unsigned.false
