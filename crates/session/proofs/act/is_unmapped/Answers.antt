use Rattle.std.proofs.Common.{sym, ◌∙◌}
use Rattle.model.specs.Basics.{◌and◌}
use Rattle.model.specs.Console.{is_fresh}
use Rattle.session.proofs.Tags.{not_fresh}
use Rattle.session.proofs.act.is_unmapped.Goals as goal
use Rattle.session.proofs.act.is_unmapped.Goals.{in-Fresh, in_default}

pub returns-after-matches : goal.returns-after-matches
unfolding ◌and◌ is_fresh
returns-after-matches c =
    elim c.match-matches.branch [
      | in-Fresh w ↦ rw (w.matches-is, sym c.is_empty-empty.ensures ∙ c.if-empty.true, w.in-Fresh.is)
      | in_default w ↦ rw (w.matches-is, sym c.is_empty-empty.ensures ∙ c.if-empty.true, not_fresh c.args.command w.in_default.not-Fresh)
    ]

pub returns-else-empty : goal.returns-else-empty
unfolding ◌and◌
returns-else-empty c = rw (sym c.is_empty-empty.ensures ∙ c.if-empty.false, c.if-empty.false)
