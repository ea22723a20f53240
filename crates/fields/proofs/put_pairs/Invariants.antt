-- The pairs of the numbers below n are stored.
use Rattle.std.proofs.Common.{◌*◌}
use Rattle.model.proofs.Entries.{Put}
use Rattle.fields.specs.Parts.{pairs_to}
use Rattle.fields.proofs.put_pairs.Given as goal

abbrev pub invariant-loop-n : goal.invariant-loop-n
invariant-loop-n l = Put 0 (2 * l.n) (pairs_to l.n) l.initial.out l.out
