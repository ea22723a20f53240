use Rattle.cut_tests.specs.Counts.{Keeps}
use Rattle.cuts_written.proofs.player.ToldKeepingPlayer.carry.Given as goal

abbrev pub invariant-loop-pattern : goal.invariant-loop-pattern
invariant-loop-pattern l = Keeps l.fn.tally l.tally
