use Rattle.std.specs.Prelude.{◌≡◌, true}
use Rattle.cut_tests.specs.Counts.{Keeps}
use Rattle.cut_tests.proofs.history.random.Given as goal

abbrev pub invariant-loop : goal.invariant-loop
invariant-loop g l = g.P.Plays.keeps ≡ true → Keeps l.fn.tally l.tally
