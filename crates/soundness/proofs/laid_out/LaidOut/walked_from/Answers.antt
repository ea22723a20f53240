use Rattle.std.proofs.Common.{arith}
use Rattle.soundness.proofs.Walk.{walked_all}
use Rattle.soundness.proofs.laid_out.LaidOut.walked_from.Goals as goal

pub loop-i-preserved : goal.loop-i-preserved
loop-i-preserved c = c.met-bad.ensures _ c.args.self.intervals_right (omega arith) _ c.loop-i.invariant

pub returns : goal.returns
returns c = walked_all c.args.self.intervals_right c.loop-i.invariant (omega arith)
