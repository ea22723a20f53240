use Rattle.cut_tests.specs.Counts.{Keeps}
use Rattle.cut_tests.proofs.job.Job.grown.Given as goal

abbrev pub invariant-loop-bucket : goal.invariant-loop-bucket
invariant-loop-bucket g l = Keeps l.fn.tally l.tally
