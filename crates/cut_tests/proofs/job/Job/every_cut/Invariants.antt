use Rattle.cut_tests.specs.Counts.{Keeps}
use Rattle.cut_tests.proofs.job.Job.every_cut.Given as goal

abbrev pub invariant-loop-mark : goal.invariant-loop-mark
invariant-loop-mark g l = Keeps l.fn.tally l.tally
