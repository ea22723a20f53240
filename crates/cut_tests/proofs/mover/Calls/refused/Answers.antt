use Rattle.std.proofs.Common.{ap, ◌∙◌}
use Rattle.cut_tests.proofs.mover.Calls.refused.Goals as goal

pub returns-clause-refused : goal.returns-clause-refused
returns-clause-refused g c =
    ap (λ tally. tally.refused) c.alike.ensures.others
    ∙ ap (λ tally. tally.refused) c.replied.ensures.others
    ∙ ap (λ tally. tally.refused) c.refused_by.ensures
