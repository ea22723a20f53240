-- The last digits are stored, and `rest` has the others.
use Rattle.std.proofs.Common.{◌+◌}
use Rattle.fields.proofs.Fields.{Ends}
use Rattle.fields.proofs.copy_field.Given as goal

abbrev pub invariant-loop-rest : goal.invariant-loop-rest
invariant-loop-rest l = Ends l.n (l.at + 10) l.end l.rest l.initial.out l.out

abbrev pub decreases-loop-rest : goal.decreases-loop-rest
decreases-loop-rest l = l.rest
