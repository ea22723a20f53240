use Rattle.cut_tests.specs.Counts.{Keeps}
use Rattle.cut_tests.proofs.job.Job.cut_pairs.Given as goal

abbrev pub invariant-loop-second : goal.invariant-loop-second
invariant-loop-second g l = Keeps l.fn.tally l.tally
