use mathlib.Core.Path.{refl}
use Rattle.model.proofs.Checked.{checked}
use Rattle.soundness.proofs.check.Goals as goal

pub invariant_of-result : goal.invariant_of-result
invariant_of-result c = record { formed = checked _ _ 0 c.in_ok-table_allowed.ensures refl }
