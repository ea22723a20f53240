use Prim.Native.Nat.{◌+◌, ◌-◌, ◌<◌}
use mathlib.Core.Path.{◌≡◌, ap}
use native.Mathlib.Omega.{arith}
use lib.ListN.{length, get_or}
use Rattle.model.specs.Basics.{before}
use Rattle.model.proofs.Rules.{before_some, before_next}
use Rattle.batch.proofs.Passing.{among_counted, Is_among_later}
use Rattle.batch.proofs.interval_from.Goals as goal

pub returns-then-bucket-ends : goal.returns-then-bucket-ends
returns-then-bucket-ends c =
    let i = c.loop-i.i in
    let seven : i + 8 - 1 - i ≡ 7 = omega arith in
    let last : i + 8 - 1 ≡ i + 7 = omega arith in (
      omega (arith, c.loop-i.invariant.on),
      among_counted c.args.ends.now c.args.bucket i 7 _ c.requires.0 (omega arith) c.loop-i.invariant.among.from
          (rw last at c.if-bucket-ends.true) (rw seven at c.count_past.ensures),
    )

pub loop-i-preserved : goal.loop-i-preserved
loop-i-preserved c =
    let i = c.loop-i.i in
    record {
      on = omega (arith, c.loop-i.invariant.on);
      among =
          Is_among_later (i + 8) (omega (arith, before_some c.args.ends.now (i + 8) (omega arith), c.if-bucket-ends.false)) (omega arith)
          (omega (arith, c.loop-i.invariant.among.some)) c.loop-i.invariant.among;
    }

pub returns : goal.returns
returns c =
    let i = c.loop-i.i in
    let m = c.loop-i.invariant.among in
    let ends = c.args.ends.now in
    let left : length ends - 1 - i ≡ length ends - i - 1 = omega arith in
    let last : i + (length ends - i) ≡ i + (length ends - i - 1) + 1 = omega (arith, m.some) in
    let to : c.args.bucket < get_or ends (i + (length ends - i - 1)) 0 = omega (arith, m.to, ap (before ends) last, before_next ends (i + (length ends - i - 1))) in (
      omega (arith, c.loop-i.invariant.on),
      among_counted ends c.args.bucket i (length ends - i - 1) _ c.requires.0 (omega (arith, m.some)) m.from to (rw left at c.count_past-2.ensures),
    )
