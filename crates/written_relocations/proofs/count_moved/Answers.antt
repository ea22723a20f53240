use native.Mathlib.Omega.{arith}
use Rattle.written_relocations.proofs.Walk.{counting_starts, counting_ends, counting_part, counting_next}
use Rattle.written_relocations.proofs.count_moved.Goals as goal

pub loop-i-init : goal.loop-i-init
loop-i-init c s d = counting_starts _ _ _ _ _ d

pub overflow_sub-first : goal.overflow_sub-first
overflow_sub-first c =
    let d = c.requires.1 in
    let at = c.loop-i in
    let here = counting_part _ _ _ _ _ d at.i at.start at.n (at.invariant _ d) c.loop-i-test.true _ c.plan_at-plan.ensures in
    omega (arith, here.within)

pub among-n-requires : goal.among-n-requires
among-n-requires c =
    let d = c.requires.1 in
    let at = c.loop-i in
    let here = counting_part _ _ _ _ _ d at.i at.start at.n (at.invariant _ d) c.loop-i-test.true _ c.plan_at-plan.ensures in
    (omega (arith, here.within), omega (arith, here.within, here.inside, d.long))

pub overflow_add-n : goal.overflow_add-n
overflow_add-n c =
    let d = c.requires.1 in
    let at = c.loop-i in
    let v = at.invariant _ d in
    let here = counting_part _ _ _ _ _ d at.i at.start at.n v c.loop-i-test.true _ c.plan_at-plan.ensures in
    omega (arith, v.counted, here.adds, c.among-n.ensures, here.few, d.formed.bucket_limit)

pub loop-i-preserved : goal.loop-i-preserved
loop-i-preserved c s d =
    let at = c.loop-i in
    let v = at.invariant s d in
    let here = counting_part _ _ _ _ _ d at.i at.start at.n v c.loop-i-test.true _ c.plan_at-plan.ensures in
    counting_next _ _ _ _ _ d at.i at.start at.n v c.loop-i-test.true _ (omega (arith, v.counted, here.adds, c.among-n.ensures))

pub returns : goal.returns
returns c s d =
    let at = c.loop-i in
    counting_ends _ _ _ _ _ d at.i at.start at.n (at.invariant s d) (omega (arith, c.loop-i-test.false))
