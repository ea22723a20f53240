use mathlib.Core.Path.{sym, ◌∙◌}
use native.Mathlib.Omega.{arith}
use Rattle.irr.proofs.Answers.{load_short, load_refused, load_later}
use Rattle.irr.proofs.saved.load.Goals as goal

pub returns-then-room_short-clause-value : goal.returns-then-room_short-clause-value
returns-then-room_short-clause-value c = (load_refused _ _ _ 21 (load_short _ _ _ (sym c.room_short.ensures ∙ c.if-room_short.true)) (λ z. omega arith)).0

pub returns-then-room_short-clause-arrays_left : goal.returns-then-room_short-clause-arrays_left
returns-then-room_short-clause-arrays_left c = (load_refused _ _ _ 21 (load_short _ _ _ (sym c.room_short.ensures ∙ c.if-room_short.true)) (λ z. omega arith)).1

pub returns-clause-value : goal.returns-clause-value
returns-clause-value c = c.loaded.ensures.value ∙ (load_later _ _ _ (sym c.room_short.ensures ∙ c.if-room_short.false)).0

pub returns-clause-arrays_left : goal.returns-clause-arrays_left
returns-clause-arrays_left c = c.loaded.ensures.arrays_left ∙ (load_later _ _ _ (sym c.room_short.ensures ∙ c.if-room_short.false)).1
