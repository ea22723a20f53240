use Rattle.cut_tests.specs.Counts.{Keeps}
use Rattle.cut_tests.proofs.job.Job.uncut_rows.Given as goal

abbrev pub invariant-loop-mark : goal.invariant-loop-mark
invariant-loop-mark g l = Keeps l.fn.tally l.tally
