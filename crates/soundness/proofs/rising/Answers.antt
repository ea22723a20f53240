use Rattle.std.proofs.Common.{◌≡◌, refl, arith}
use Rattle.model.specs.Basics.{◌and◌, all, before}
use Rattle.model.specs.Refusal.{rises}
use Rattle.model.proofs.Flags.{rises_more}
use Rattle.soundness.proofs.rising.Goals as goal

pub returns-then-n-eq0 : goal.returns-then-n-eq0
unfolding rises all
returns-then-n-eq0 c = rw c.if-n-eq0.true

pub loop-i-init : goal.loop-i-init
unfolding rises all before ◌and◌
loop-i-init c = refl

pub loop-i-preserved : goal.loop-i-preserved
loop-i-preserved c = rises_more _ _ _ (omega arith) c.loop-i.invariant

pub returns : goal.returns
returns c =
    let same : c.loop-i.i ≡ c.args.n = omega arith in
    rw same at c.loop-i.invariant
