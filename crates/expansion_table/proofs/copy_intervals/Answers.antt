use mathlib.Core.Path.{refl}
use Rattle.model.specs.Table.{over}
use Rattle.expansion_table.proofs.copy_intervals.Goals as goal

pub returns-then-count-eq0 : goal.returns-then-count-eq0
unfolding over
returns-then-count-eq0 c = rw c.if-count-eq0.true (refl, refl, refl)
