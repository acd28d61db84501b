use Rattle.std.proofs.Common.{arith}
use Rattle.report.proofs.Size.{length-report}
use Rattle.report.proofs.report.Goals as goal

-- the longest text fits
pub print_file-requires : goal.print_file-requires
print_file-requires c =
    let longest = length-report c.args.file.now (λ i. (c.type_inv.file i).fits) in
    rw c.new-text.ensures (omega arith)
