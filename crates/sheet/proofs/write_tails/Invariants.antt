use Prim.Native.Nat.{◌*◌}
use Rattle.model.proofs.Entries.{Put}
use Rattle.sheet.specs.Lines.{tails_of}
use Rattle.sheet.proofs.write_tails.Given as goal

abbrev pub invariant-loop-j : goal.invariant-loop-j
invariant-loop-j l = Put 0 (32 * l.j) (tails_of l.tops l.j) l.initial.out l.out
