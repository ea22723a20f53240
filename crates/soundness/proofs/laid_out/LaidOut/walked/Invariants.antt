-- the first i intervals are walked
use Rattle.std.proofs.Common.{◌-◌, ◌≤◌, []}
use Rattle.model.specs.Table.{arrays}
use Rattle.soundness.specs.Passed.{Walked}
use Rattle.soundness.proofs.laid_out.LaidOut.walked.Given as goal

abbrev pub invariant-loop-i : goal.invariant-loop-i
invariant-loop-i l =
    (l.i ≤ l.self.header.interval_count)
    × Walked l.self.header (arrays [] l.self.ends.now l.self.blocks.now l.self.adjustments.now) l.i l.start l.sums l.bad

abbrev pub decreases-loop-i : goal.decreases-loop-i
decreases-loop-i l = l.self.header.interval_count - l.i
