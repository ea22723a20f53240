-- The loop's invariant: the lines of the first i rows are stored.
use Rattle.model.specs.Console.{move_text}
use Rattle.model.proofs.Entries.{Put}
use Rattle.console.specs.Listing.{rows_in}
use Rattle.console.proofs.list.put_rows.Given as goal

abbrev pub invariant-loop-i : goal.invariant-loop-i
invariant-loop-i l = Put 0 l.at (move_text (rows_in l.rows l.i)) l.fn.out l.out
