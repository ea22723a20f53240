use Rattle.std.proofs.Common.{◌+◌, arith}
use Rattle.soundness.proofs.Walk.{walked_none, walked_at}
use Rattle.soundness.proofs.laid_out.LaidOut.walked.Goals as goal

pub loop-i-init : goal.loop-i-init
loop-i-init c = (omega arith, rw c.requires (walked_none _ _))

pub loop-i-preserved : goal.loop-i-preserved
loop-i-preserved c =
    let right = c.args.self.intervals_right in
    let i = c.loop-i.i in
    let w₁ = c.met-bad.ensures _ right (omega arith) _ c.loop-i.invariant.1 in
    let w₂ = walked_at {j = i + 2} (c.met-bad-in-loop-i.ensures _ right (omega arith) _ w₁) (omega arith) in
    let w₃ = walked_at {j = i + 3} (c.met-bad-in-loop-i-2.ensures _ right (omega arith) _ w₂) (omega arith) in
    (omega arith, walked_at {j = i + 4} (c.met-bad-in-loop-i-3.ensures _ right (omega arith) _ w₃) (omega arith))
