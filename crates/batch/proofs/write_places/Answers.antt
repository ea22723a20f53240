use Prim.Native.Nat.{◌<◌}
use mathlib.Core.Path.{◌∙◌}
use native.Mathlib.Omega.{arith}
use lib.Seq.{length-take-le, get_or-take}
use Rattle.lookup.proofs.Narrowing.{ends_taken, among_taken, among_kept}
use Rattle.batch.proofs.Walk.{walking_starts, walking_ends, walking_among, found_placeable, found_more, walking_more}
use Rattle.batch.proofs.write_places.Goals as goal

pub loop-placed-init : goal.loop-placed-init
loop-placed-init c = walking_starts c.args.buckets.now c.args.table.formed c.requires.buckets_value _

pub interval_from-interval-requires : goal.interval_from-interval-requires
interval_from-interval-requires c =
    let s = c.args.table.formed in
    let among = walking_among c.args.buckets.now s c.requires.buckets_value c.loop-placed.invariant c.loop-placed-test.true in
    (ends_taken _ _ s.ends_long s.ends_rise, rw (length-take-le _ _ s.ends_long) (among_taken _ _ s.ends_long among))

pub write_interval-placed-requires : goal.write_interval-placed-requires
write_interval-placed-requires c =
    let s = c.args.table.formed in (
      found_placeable c.args.buckets.now s c.requires.buckets_value c.loop-placed-test.true
          (among_kept _ _ s.ends_long c.interval_from-interval.ensures.1) (c.new-placer.ensures ∙ c.placing.ensures)
          (omega (arith, c.requires.buckets_in_bounds)),
      c.loop-placed.invariant.on,
    )

pub loop-placed-smaller : goal.loop-placed-smaller
loop-placed-smaller c =
    let s = c.args.table.formed in
    let m = among_kept _ _ s.ends_long c.interval_from-interval.ensures.1 in
    let inside : c.interval_from-interval.result < c.args.table.header.interval_count = omega (arith, m.within) in
    let kept = get_or-take c.args.table.header.interval_count c.args.table.ends.now c.interval_from-interval.result 0 inside in
    omega (
      arith,
      found_more c.args.buckets.now s c.requires.buckets_value c.loop-placed-test.true m (c.new-placer.ensures ∙ c.placing.ensures)
          (rw kept at c.write_interval-placed.ensures.0) (rw kept at c.write_interval-placed.ensures.1),
      c.loop-placed-test.true,
    )

pub loop-placed-preserved : goal.loop-placed-preserved
loop-placed-preserved c =
    let s = c.args.table.formed in
    let m = among_kept _ _ s.ends_long c.interval_from-interval.ensures.1 in
    let inside : c.interval_from-interval.result < c.args.table.header.interval_count = omega (arith, m.within) in
    let kept = get_or-take c.args.table.header.interval_count c.args.table.ends.now c.interval_from-interval.result 0 inside in
    walking_more c.args.buckets.now s c.requires.buckets_value c.loop-placed-test.true m (c.new-placer.ensures ∙ c.placing.ensures)
    (rw kept at c.write_interval-placed.ensures.0) c.loop-placed.invariant

pub returns : goal.returns
returns c =
    walking_ends c.args.buckets.now c.args.table.formed c.requires.buckets_value c.loop-placed.invariant c.loop-placed-test.false
    c.requires.buckets_in_bounds
