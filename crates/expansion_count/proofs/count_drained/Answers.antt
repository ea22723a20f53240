use mathlib.Core.Path.{◌∙◌, ap}
use native.Mathlib.Omega.{arith}
use lib.ListN.{length, get_or}
use Rattle.model.specs.Table.{arrays, table, sizes}
use Rattle.model.proofs.Growths.{accepted}
use Rattle.model.proofs.Tables.{lent_interval}
use Rattle.model.proofs.Wells.{adjustment_most}
use Rattle.expansion_plan.proofs.Turns.{planned}
use Rattle.expansion_count.specs.Made.{made}
use Rattle.expansion_count.proofs.Parts.{making_start, making_more, making_end}
use Rattle.expansion_count.proofs.count_drained.Goals as goal

pub loop-i-init : goal.loop-i-init
loop-i-init c = (omega arith, λ tops bins d. making_start _ _ _ d.formed)

pub plan_interval-plan-requires : goal.plan_interval-plan-requires
plan_interval-plan-requires c =
    let d = c.requires.holds in
    let formed = d.formed in
    let i = c.loop-i.i in
    let walk = (c.loop-i.invariant.1 _ _ d).walk in
    let l = c.loop-i-test.true in (
      omega (arith, adjustment_most _ _ formed i l, walk.starts),
      omega (arith, formed.ends_rise i l, walk.starts),
      walk.below,
    )

pub left_behind-requires : goal.left_behind-requires
unfolding table
left_behind-requires c = (c.loop-i-test.true, (accepted _ _ c.requires.holds.asked).more_buckets)

pub overflow_add-intervals : goal.overflow_add-intervals
overflow_add-intervals c =
    omega (
      arith,
      c.part_count-intervals.ensures.0,
      c.loop-i.invariant.0,
      c.loop-i-test.true,
      c.requires.holds.formed.interval_limit,
    )

pub loop-i-preserved : goal.loop-i-preserved
loop-i-preserved c =
    let h = c.args.h in
    let i = c.loop-i.i in
    let l = c.loop-i-test.true in
    let blocks = c.args.blocks.now in (
      omega (arith, c.part_count-intervals.ensures.0, c.loop-i.invariant.0),
      λ tops bins d.
          let interval = lent_interval (arrays tops c.args.ends.now blocks c.args.adjustments.now) i in
          making_more _ _ (sizes _ bins) d.formed _ i _ _ (c.loop-i.invariant.1 tops bins d) l _
          (planned _ _ d.formed _ c.args.dues.now d.after _ _ _ l _ (c.plan_interval-plan.ensures (get_or blocks i 0)))
          _
          (c.part_count-intervals.ensures.1 interval h.block_count (d.formed.blocks_below i l)
          ∙ ap (λ m. length (made c.plan_interval-plan.result interval h.block_count m)) c.left_behind.ensures),
    )

pub returns : goal.returns
returns c tops bins d =
    making_end _ _ (sizes _ bins) d.formed _ c.loop-i.i _ _ (c.loop-i.invariant.1 tops bins d) c.loop-i-test.false
