use native.Mathlib.Omega.{arith}
use Rattle.batch.proofs.Pairs.{filling_none, filling_more}
use Rattle.batch.proofs.write_ones.Goals as goal

pub loop-i-init : goal.loop-i-init
loop-i-init c = filling_none _ _ _ _ _ c.requires.1

pub loop-i-preserved : goal.loop-i-preserved
loop-i-preserved c = filling_more c.loop-i.invariant (omega arith) c.if-end-bucket.false c.write_place.ensures
