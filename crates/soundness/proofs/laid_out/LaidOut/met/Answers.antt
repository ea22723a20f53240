use Rattle.std.proofs.Common.{arith}
use Rattle.soundness.proofs.Walk.{walked_more}
use Rattle.soundness.proofs.laid_out.LaidOut.met.Goals as goal

pub returns : goal.returns
returns c h p l bad w =
    walked_more p l w (omega arith) (omega arith) (omega arith) c.wrapping_sub_u32-right.ensures.value c.wrapping_sub_u32-then.ensures.value
