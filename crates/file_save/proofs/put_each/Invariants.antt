use Prim.Native.Nat.{◌+◌, ◌*◌}
use lib.ListN.{take}
use Rattle.model.proofs.Bytes.{bytes_of_all}
use Rattle.model.proofs.Entries.{Put}
use Rattle.file_save.proofs.put_each.Given as goal

abbrev pub invariant-loop-i : goal.invariant-loop-i
invariant-loop-i l = Put l.at (l.at + 4 * l.i) (bytes_of_all (take l.i l.xs)) l.initial.out l.out
