use Prim.Native.Nat.{ℕ, ◌+◌, ◌≤◌}
use native.Mathlib.Omega.{arith}
use Rattle.batch.proofs.Pairs.{filling_none, filling_more, filling_at, before_below}
use Rattle.batch.proofs.write_fours.Goals as goal

pub loop-i-init : goal.loop-i-init
loop-i-init c = filling_none _ _ _ _ _ c.requires.1

pub loop-i-preserved : goal.loop-i-preserved
loop-i-preserved c =
    let i = c.loop-i.i in
    let below = λ (k : ℕ) (l : k ≤ i + 3). before_below c.args.buckets.now k (i + 3) c.args.end c.requires.0.rise l (omega arith) c.if-end-buckets.false in
    let one = filling_more c.loop-i.invariant (omega arith) (below i (omega arith)) c.write_bucket.ensures in
    let two = filling_at (filling_more one (omega arith) (below (i + 1) (omega arith)) c.write_bucket-in-loop-i.ensures) {j = i + 2} (omega arith) in
    let three = filling_at (filling_more two (omega arith) (below (i + 2) (omega arith)) c.write_bucket-in-loop-i-2.ensures) {j = i + 3} (omega arith) in
    filling_at (filling_more three (omega arith) (below (i + 3) (omega arith)) c.write_bucket-in-loop-i-3.ensures) (omega arith)
