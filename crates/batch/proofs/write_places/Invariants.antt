use Prim.Native.Nat.{◌-◌}
use lib.ListN.{length}
use Rattle.table.specs.Formed.{arrays_of}
use Rattle.batch.proofs.Walk.{Walking}
use Rattle.batch.proofs.write_places.Given as goal

abbrev pub invariant-loop-placed : goal.invariant-loop-placed
invariant-loop-placed l =
    Walking l.table.header (arrays_of l.table) l.buckets l.interval l.placed l.initial.out l.out

abbrev pub decreases-loop-placed : goal.decreases-loop-placed
decreases-loop-placed l = length l.buckets - l.placed
