use Rattle.std.proofs.Common.{◌≡◌, not, refl, ap, arith}
use Rattle.model.specs.Basics.{all}
use Rattle.model.specs.Refusal.{blocks_wrong}
use Rattle.model.proofs.Flags.{All_more}
use Rattle.soundness.proofs.blocks_wrong.Goals as goal

pub loop-i-init : goal.loop-i-init
unfolding all
loop-i-init c = refl

pub loop-i-preserved : goal.loop-i-preserved
loop-i-preserved c = All_more _ _ _ c.loop-i.invariant

pub returns : goal.returns
unfolding blocks_wrong
returns c =
    let same : c.loop-i.i ≡ c.args.h.interval_count = omega arith in
    ap not (rw same at c.loop-i.invariant)
