use mathlib.Core.Path.{sym, ◌∙◌}
use Rattle.model.proofs.Checked.{short_refused}
use Rattle.mover_written.proofs.checked.Goals as goal

pub returns-then-arrays_short-clause-refusal : goal.returns-then-arrays_short-clause-refusal
returns-then-arrays_short-clause-refusal c = short_refused _ _ (sym c.arrays_short.ensures ∙ c.if-arrays_short.true)
