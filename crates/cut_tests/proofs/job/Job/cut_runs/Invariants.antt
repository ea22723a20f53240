use Rattle.cut_tests.specs.Counts.{Keeps}
use Rattle.cut_tests.proofs.job.Job.cut_runs.Given as goal

abbrev pub invariant-loop-first : goal.invariant-loop-first
invariant-loop-first g l = Keeps l.fn.tally l.tally
