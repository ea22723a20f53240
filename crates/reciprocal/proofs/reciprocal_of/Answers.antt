use Rattle.reciprocal.proofs.Laws.{reciprocal_divides}
use Rattle.reciprocal.proofs.reciprocal_of.Goals as goal

pub returns : goal.returns
returns c = rw c.from.ensures (reciprocal_divides c.args.divisor c.requires c.ranges.divisor.fits)
