use mathlib.Core.Path.{sym, ◌∙◌}
use Rattle.irr.proofs.Answers.{initial_short, initial_later}
use Rattle.irr.proofs.results.initial.Goals as goal

pub returns-then-room_short-clause-value : goal.returns-then-room_short-clause-value
returns-then-room_short-clause-value c = (initial_short _ _ _ (sym c.room_short.ensures ∙ c.if-room_short.true)).0

pub returns-then-room_short-clause-arrays_left : goal.returns-then-room_short-clause-arrays_left
returns-then-room_short-clause-arrays_left c = (initial_short _ _ _ (sym c.room_short.ensures ∙ c.if-room_short.true)).1

pub returns-clause-value : goal.returns-clause-value
returns-clause-value c = c.mapped.ensures.value ∙ (initial_later _ _ _ (sym c.room_short.ensures ∙ c.if-room_short.false)).0

pub returns-clause-arrays_left : goal.returns-clause-arrays_left
returns-clause-arrays_left c = c.mapped.ensures.arrays_left ∙ (initial_later _ _ _ (sym c.room_short.ensures ∙ c.if-room_short.false)).1
