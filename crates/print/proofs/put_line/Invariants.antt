-- The word and the numbers passed are stored.
use Rattle.print.proofs.Lines.{Begun}
use Rattle.print.proofs.put_line.Given as goal

abbrev pub invariant-loop-i : goal.invariant-loop-i
invariant-loop-i l = Begun l.word l.ns l.at l.i l.end l.fn.out l.out
