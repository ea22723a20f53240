-- the first i numbers are written
use Rattle.model.specs.Basics.{from}
use Rattle.model.specs.Saved.{number}
use Rattle.model.proofs.Entries.{Put}
use Rattle.file_read.proofs.copy_numbers.Given as goal

abbrev pub invariant-loop-i : goal.invariant-loop-i
invariant-loop-i l = Put 0 l.i (from (number l.f) l.first l.i) l.initial.out l.out
