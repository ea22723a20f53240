use Prim.Native.Nat.{◌/◌}
use native.Mathlib.Omega.{arith}
use Rattle.lookup.proofs.Narrowing.{among_quarter}
use Rattle.lookup.proofs.narrow.Goals as goal

pub loop-count-preserved : goal.loop-count-preserved
loop-count-preserved c =
    among_quarter c.requires.1.rise c.loop-count.invariant (c.loop-count.count / 4)
    _ _ _ (omega arith) (omega arith) c.past-first.ensures c.past-second.ensures
    c.past-third.ensures
