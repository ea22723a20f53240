use mathlib.Core.Path.{sym, ◌∙◌}
use Rattle.model.proofs.Refusals.{first_here, first_skip, first_none}
use Rattle.mover.proofs.last_allowed.Goals as goal

pub returns-then-short : goal.returns-then-short
returns-then-short c = sym (first_here (40, c.args.short) _ c.if-short.true)

pub returns-then-past : goal.returns-then-past
returns-then-past c = sym (first_skip (40, c.args.short) _ c.if-short.false ∙ first_here (41, c.args.past) _ c.if-past.true)

pub returns : goal.returns
returns c =
    sym (first_skip (40, c.args.short) _ c.if-short.false ∙ first_skip (41, c.args.past) _ c.if-past.false ∙ first_none)
