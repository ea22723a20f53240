use Rattle.model.specs.Basics.{if◌then◌otherwise◌}
use Rattle.model.specs.Refusal.{first}
use Rattle.session.specs.Maps.{maps}
use Rattle.session.proofs.Steps.{line_tests_lem}
use Rattle.session.proofs.act.line_allowed.Goals as goal

pub returns-then-unreadable : goal.returns-then-unreadable
unfolding first if◌then◌otherwise◌
returns-then-unreadable c this other =
    rw c.if-unreadable.true at
    (line_tests_lem (maps c.args.state this other) c.args.command _ _ c.is_unreadable-unreadable.ensures c.is_unmapped-unmapped.ensures)

pub returns-then-unmapped : goal.returns-then-unmapped
unfolding first if◌then◌otherwise◌
returns-then-unmapped c this other =
    rw (c.if-unreadable.false, c.if-unmapped.true) at
    (line_tests_lem (maps c.args.state this other) c.args.command _ _ c.is_unreadable-unreadable.ensures c.is_unmapped-unmapped.ensures)

pub returns : goal.returns
unfolding first if◌then◌otherwise◌
returns c this other =
    rw (c.if-unreadable.false, c.if-unmapped.false) at
    (line_tests_lem (maps c.args.state this other) c.args.command _ _ c.is_unreadable-unreadable.ensures c.is_unmapped-unmapped.ensures)
