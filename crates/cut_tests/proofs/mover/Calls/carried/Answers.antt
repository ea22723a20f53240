use Rattle.std.proofs.Common.{ap, ◌∙◌}
use Rattle.cut_tests.proofs.mover.Calls.carried.Goals as goal

pub returns-clause-calls : goal.returns-clause-calls
returns-clause-calls g c = ap (λ tally. tally.calls) c.replied.ensures.others ∙ c.add.ensures
