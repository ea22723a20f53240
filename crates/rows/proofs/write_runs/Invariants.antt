use Rattle.rows.proofs.Runs.{Turning}
use Rattle.rows.proofs.write_runs.Given as goal

-- the rows up to bucket x are written, and the turns are those of x
abbrev pub invariant-loop-left : goal.invariant-loop-left
invariant-loop-left l = Turning l.span l.at l.fn.rows l.rows l.here l.there l.x l.left l.row

abbrev pub decreases-loop-left : goal.decreases-loop-left
decreases-loop-left l = l.left
