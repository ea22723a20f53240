-- The loop's invariant: the lines before the place are answered.
use Rattle.std.proofs.Common.{◌-◌, length}
use Rattle.table.specs.Formed.{table_of}
use Rattle.wheres.specs.Wheres.{Places}
use Rattle.wheres.proofs.answer_places.Given as goal

abbrev pub invariant-loop-at : goal.invariant-loop-at
invariant-loop-at l = Places (table_of l.table) l.block l.from l.put l.fn.out (record { from = l.line; put = l.at }) l.out

abbrev pub decreases-loop-at : goal.decreases-loop-at
decreases-loop-at l = length l.block - l.line
