use Prim.Native.Nat.{◌-◌}
use Rattle.table.specs.Formed.{arrays_of}
use Rattle.lookup.proofs.Finding.{Searching}
use Rattle.lookup.proofs.hold.Given as goal

abbrev pub invariant-loop-i : goal.invariant-loop-i
invariant-loop-i l = Searching (arrays_of l.table) l.table.header.interval_count l.block l.rank l.i l.start

abbrev pub decreases-loop-i : goal.decreases-loop-i
decreases-loop-i l = l.table.header.interval_count - l.i
