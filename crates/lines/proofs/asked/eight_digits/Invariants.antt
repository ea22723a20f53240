use Rattle.lines.proofs.Bytes.{Passed}
use Rattle.lines.proofs.asked.eight_digits.Given as goal

abbrev pub invariant-loop-c : goal.invariant-loop-c
invariant-loop-c l = Passed l.c-items l.c-index l.all
