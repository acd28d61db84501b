use mathlib.Core.Path.{◌≡◌, ◌∙◌}
use mathlib.Core.Bool.{true}
use Prim.Native.Nat.{◌*◌, ◌/◌, ◌^◌, compare}
use Rattle.limbs.specs.Nearest.{rounded}
use Rattle.finish.specs.Figure.{away_from_zero}
use Rattle.finish.proofs.Hundredths.{hundredths_zero, hundredths_round}
use Rattle.finish.proofs.nearest_hundredths.Goals as goal

pub returns-then-r-gt62 : goal.returns-then-r-gt62
returns-then-r-gt62 c = hundredths_zero away_from_zero c.args.m c.args.r c.requires.fits c.if-r-gt62.true

pub returns : goal.returns
returns c =
    let n = c.args.m * 100 in
    let e : c.round_by.result ≡ rounded true (n / 2 ^ c.args.r) (compare c.last_digits.result c.power.result) = c.round_by.ensures in
    e
    ∙ hundredths_round away_from_zero (c.args.m * 100) c.args.r _ _ c.requires.nonzero c.last_digits.ensures c.power.ensures
