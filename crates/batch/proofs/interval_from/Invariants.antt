use Prim.Native.Nat.{◌-◌, ◌≤◌}
use lib.ListN.{length}
use Rattle.lookup.specs.Search.{Among}
use Rattle.batch.proofs.interval_from.Given as goal

abbrev pub invariant-loop-i : goal.invariant-loop-i
invariant-loop-i l =
    record { on : l.from ≤ l.i; among : Among l.ends (length l.ends) l.bucket l.i (length l.ends - l.i) }

abbrev pub decreases-loop-i : goal.decreases-loop-i
decreases-loop-i l = length l.ends - l.i
