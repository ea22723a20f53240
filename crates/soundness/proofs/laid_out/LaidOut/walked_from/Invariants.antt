-- the intervals before i are walked
use Rattle.std.proofs.Common.{[]}
use Rattle.model.specs.Table.{arrays}
use Rattle.soundness.specs.Passed.{Walked}
use Rattle.soundness.proofs.laid_out.LaidOut.walked_from.Given as goal

abbrev pub invariant-loop-i : goal.invariant-loop-i
invariant-loop-i l =
    Walked l.self.header (arrays [] l.self.ends.now l.self.blocks.now l.self.adjustments.now) l.i l.start l.sums l.bad
