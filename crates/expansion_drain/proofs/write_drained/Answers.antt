use Prim.Native.Nat.{ℕ, ◌+◌, ◌-◌, ◌<◌}
use mathlib.Core.Path.{◌≡◌, sym, ap}
use mathlib.Core.List.{List, []}
use native.Mathlib.Omega.{arith}
use lib.ListN.{get_or}
use Rattle.model.specs.Basics.{before}
use Rattle.model.specs.Table.{Interval, arrays, table, sizes}
use Rattle.model.specs.Expansion.{drained}
use Rattle.model.specs.declared.table.Header.{Header}
use Rattle.model.proofs.Rules.{before_next}
use Rattle.model.proofs.Growths.{accepted}
use Rattle.model.proofs.Steps.{walk_start, walk_end}
use Rattle.expansion_count.specs.Given.{Drains}
use Rattle.expansion_count.proofs.Bounds.{drained_most}
use Rattle.expansion_count.proofs.Parts.{to_make, make_none, make_all, behind_none, behind_all}
use Rattle.expansion_drain.proofs.Drains.{plan_read, turn_asks, turn_walk, turn_made, turn_ready}
use Rattle.expansion_drain.proofs.Stores.{Writing, room_less, writing_start, writing_part, writing_more, writing_end, writing_all}
use Rattle.expansion_drain.proofs.write_drained.Goals as goal

pub overflow_sub-last : goal.overflow_sub-last
overflow_sub-last c = c.requires.holds.drains.formed.some_intervals

pub loop-i-init : goal.loop-i-init
unfolding before
loop-i-init c tops bins d = (walk_start _ _ _, rw (make_all _ _ (sizes _ bins) d.formed) (writing_start _ _ _ _ _))

pub plan_of-plan-requires : goal.plan_of-plan-requires
plan_of-plan-requires c =
    let d = c.requires.holds.drains in
    let own = c.lent_interval-interval.ensures in
    rw (
      c.before-in-loop-i.ensures,
      ap (λ (v : Interval). v.block) own,
      ap (λ (v : Interval). v.adjustment) own,
      ap (λ (v : Interval). v.end) own,
    )
    (turn_asks d c.loop-i.i _ _ (omega (arith, c.loop-i-test.true)) (c.loop-i.invariant _ _ d).0)

pub write_parts-o-requires-clause-block_lt_g : goal.write_parts-o-requires-clause-block_lt_g
write_parts-o-requires-clause-block_lt_g c =
    let d = c.requires.holds.drains in
    let own = c.lent_interval-interval.ensures in
    let plan = plan_read _ _ _ own (rw c.before-in-loop-i.ensures at c.plan_of-plan.ensures) in
    rw (ap (λ (v : Interval). v.block) own, ap (λ (v : Interval). v.end) own)
    (turn_ready d c.loop-i.i _ _ (omega (arith, c.loop-i-test.true)) _ plan (c.loop-i.invariant _ _ d).0 0
    (sym (behind_none _ _ _ (omega (arith, c.loop-i-test.true)))))

pub write_parts-o-requires-clause-room : goal.write_parts-o-requires-clause-room
write_parts-o-requires-clause-room c =
    let d = c.requires.holds.drains in
    let own = c.lent_interval-interval.ensures in
    let plan = plan_read _ _ _ own (rw c.before-in-loop-i.ensures at c.plan_of-plan.ensures) in
    let front =
    turn_made d c.loop-i.i _ _ (omega (arith, c.loop-i-test.true)) _ plan 0
    (sym (behind_none _ _ _ (omega (arith, c.loop-i-test.true)))) in
    rw own (writing_part (c.loop-i.invariant _ _ d).1 front (room_less (omega arith) c.requires.holds.room))

pub loop-i-preserved : goal.loop-i-preserved
loop-i-preserved c tops bins d =
    let i = c.loop-i.i in
    let l : i < c.args.h.interval_count = omega (arith, c.loop-i-test.true) in
    let own = c.lent_interval-interval.ensures in
    let plan = plan_read _ _ _ own (rw c.before-in-loop-i.ensures at c.plan_of-plan.ensures) in
    let front = turn_made d i _ _ l _ plan 0 (sym (behind_none _ _ _ (omega (arith, c.loop-i-test.true)))) in
    let stored = rw own at c.write_parts-o.ensures.stored in
    let place = rw own at c.write_parts-o.ensures.place in
    let inv = c.loop-i.invariant tops bins d in
    rw (before_next c.args.ends.now i) (turn_walk d i _ _ l _ plan inv.0, writing_more inv.1 _ front stored place)

-- THE LAST INTERVAL

last-one
    : {h : Header} {ends blocks adjustments : List ℕ} {buckets : ℕ} {dues tops : List ℕ} {bins : ℕ}
    → Drains h ends blocks adjustments buckets dues tops bins → h.interval_count - 1 < h.interval_count
last-one d = omega (arith, d.formed.some_intervals)

pub plan_of-plan-requires-2 : goal.plan_of-plan-requires-2
plan_of-plan-requires-2 c =
    let d = c.requires.holds.drains in
    let own = c.lent_interval-interval-2.ensures in
    let all : c.loop-i.i ≡ c.args.h.interval_count - 1 = omega (arith, c.loop-i-test.false, c.loop-i.auto.i-end) in
    rw (
      c.before-2.ensures,
      ap (λ (v : Interval). v.block) own,
      ap (λ (v : Interval). v.adjustment) own,
      ap (λ (v : Interval). v.end) own,
    )
    (turn_asks d _ _ _ (last-one d) (rw all at (c.loop-i.invariant _ _ d).0))

pub overflow_sub-buckets : goal.overflow_sub-buckets
unfolding table
overflow_sub-buckets c = (accepted _ _ c.requires.holds.drains.asked).more_buckets

pub write_parts-place-requires-clause-block_lt_g : goal.write_parts-place-requires-clause-block_lt_g
write_parts-place-requires-clause-block_lt_g c =
    let d = c.requires.holds.drains in
    let own = c.lent_interval-interval-2.ensures in
    let plan = plan_read _ _ _ own (rw c.before-2.ensures at c.plan_of-plan-2.ensures) in
    let all : c.loop-i.i ≡ c.args.h.interval_count - 1 = omega (arith, c.loop-i-test.false, c.loop-i.auto.i-end) in
    rw (ap (λ (v : Interval). v.block) own, ap (λ (v : Interval). v.end) own)
    (turn_ready d _ _ _ (last-one d) _ plan (rw all at (c.loop-i.invariant _ _ d).0) _ (sym (behind_all _ _ _ (omega arith))))

pub write_parts-place-requires-clause-room : goal.write_parts-place-requires-clause-room
write_parts-place-requires-clause-room c =
    let d = c.requires.holds.drains in
    let own = c.lent_interval-interval-2.ensures in
    let plan = plan_read _ _ _ own (rw c.before-2.ensures at c.plan_of-plan-2.ensures) in
    let all : c.loop-i.i ≡ c.args.h.interval_count - 1 = omega (arith, c.loop-i-test.false, c.loop-i.auto.i-end) in
    let front = turn_made d _ _ _ (last-one d) _ plan _ (sym (behind_all _ _ _ (omega arith))) in
    rw own (writing_part (rw all at (c.loop-i.invariant _ _ d).1) front (room_less (omega arith) c.requires.holds.room))

-- it is written
all-written
    : (c : goal.After-slice_known-6-1) (tops : List ℕ) (bins : ℕ)
    → Drains c.args.h c.args.ends.now c.args.blocks.now c.args.adjustments.now c.args.buckets c.args.dues.now tops bins
    → let last = c.args.h.interval_count - 1 in
    let a = arrays tops c.args.ends.now c.args.blocks.now c.args.adjustments.now in
    Writing 0 c.write_parts-place.result (drained (table c.args.h a) (sizes c.args.buckets bins))
    (to_make c.args.h a (sizes c.args.buckets bins) (last + 1) (get_or c.args.ends.now last 0) c.plan_of-plan-2.result.moved)
    c.args.new_ends.now c.args.new_blocks.now c.args.new_adjustments.now
    c.write_parts-place.new.ends c.write_parts-place.new.blocks c.write_parts-place.new.adjustments
all-written c tops bins d =
    let own = c.lent_interval-interval-2.ensures in
    let plan = plan_read _ _ _ own (rw c.before-2.ensures at c.plan_of-plan-2.ensures) in
    let all : c.loop-i.i ≡ c.args.h.interval_count - 1 = omega (arith, c.loop-i-test.false, c.loop-i.auto.i-end) in
    let front = turn_made d _ _ _ (last-one d) _ plan _ (sym (behind_all _ _ _ (omega arith))) in
    let stored = rw own at c.write_parts-place.ensures.stored in
    let place = rw own at c.write_parts-place.ensures.place in
    writing_more (rw all at (c.loop-i.invariant tops bins d).1) _ front stored place

-- and nothing is left
none_left
    : {h : Header} {ends blocks adjustments : List ℕ} {buckets : ℕ} {dues tops : List ℕ} {bins : ℕ}
    → Drains h ends blocks adjustments buckets dues tops bins → (w : ℕ)
    → let last = h.interval_count - 1 in
    to_make h (arrays tops ends blocks adjustments) (sizes buckets bins) (last + 1) (get_or ends last 0) w ≡ []
none_left d w = make_none _ _ _ _ _ _ (omega arith)

pub overflow_cast-result : goal.overflow_cast-result
overflow_cast-result c =
    let d = c.requires.holds.drains in
    omega (
      arith,
      writing_all (all-written c _ _ d) (none_left d _),
      drained_most _ _ (sizes c.args.buckets c.requires.other) d.formed,
      d.formed.interval_limit,
      d.formed.block_limit,
    )

pub returns : goal.returns
returns c tops bins d =
    let own = c.lent_interval-interval-2.ensures in
    let plan = plan_read _ _ _ own (rw c.before-2.ensures at c.plan_of-plan-2.ensures) in
    let all : c.loop-i.i ≡ c.args.h.interval_count - 1 = omega (arith, c.loop-i-test.false, c.loop-i.auto.i-end) in
    let walk = turn_walk d _ _ _ (last-one d) _ plan (rw all at (c.loop-i.invariant tops bins d).0) in (
      record {
        intervals = omega (arith, writing_all (all-written c tops bins d) (none_left d _));
        moved = walk_end _ _ _ _ _ _ (omega arith) walk;
      },
      writing_end (all-written c tops bins d) (none_left d _),
    )
