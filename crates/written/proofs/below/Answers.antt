use Rattle.written.proofs.Bits.{buckets_below}
use Rattle.written.proofs.below.Goals as goal

pub returns : goal.returns
returns c = buckets_below c.args.bits.now c.args.x
