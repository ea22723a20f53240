use Rattle.cut_tests.specs.Counts.{Keeps}
use Rattle.cuts_written.proofs.flagged.Flagged.countings.Given as goal

abbrev pub invariant-loop-more : goal.invariant-loop-more
invariant-loop-more l = Keeps l.fn.tally l.tally
