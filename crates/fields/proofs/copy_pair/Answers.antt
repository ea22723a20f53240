use Rattle.std.proofs.Common.{arith}
use Rattle.digits.proofs.Stores.{pair_stored}
use Rattle.fields.proofs.Copies.{pairs_long, pair_at}
use Rattle.fields.proofs.copy_pair.Goals as goal

pub bounds-pairs-n : goal.bounds-pairs-n
bounds-pairs-n c = omega (arith, pairs_long c.args.pairs.now c.requires.pairs)

pub bounds-pairs-n-2 : goal.bounds-pairs-n-2
bounds-pairs-n-2 c = omega (arith, pairs_long c.args.pairs.now c.requires.pairs)

pub returns : goal.returns
returns c =
    let two = pair_at c.args.pairs.now c.requires.pairs c.args.n c.requires.below in
    pair_stored c.args.n c.args.out.now c.args.at _ _ two.0 two.1
