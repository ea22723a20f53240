-- the array has the sums before interval i
use Rattle.std.proofs.Common.{[]}
use Rattle.model.specs.Table.{arrays}
use Rattle.model.proofs.Holdings.{Sums}
use Rattle.soundness.proofs.laid_out.LaidOut.summed.Given as goal

abbrev pub invariant-loop-i : goal.invariant-loop-i
invariant-loop-i l = Sums l.self.header (arrays [] l.self.ends.now l.self.blocks.now []) l.i l.start l.sums
