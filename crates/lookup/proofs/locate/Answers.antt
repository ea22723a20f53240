use mathlib.Core.Path.{◌≡◌, ap, sym}
use Prim.Native.Nat.{◌+◌, ◌<◌}
use native.Mathlib.Omega.{arith}
use lib.ListN.{get_or}
use lib.Seq.{length-take-le}
use Rattle.model.specs.Basics.{before}
use Rattle.model.proofs.Rules.{before_next}
use Rattle.table.specs.Formed.{arrays_of}
use Rattle.lookup.proofs.Narrowing.{ends_taken, among_all, among_taken, among_kept, among_less}
use Rattle.lookup.proofs.Searches.{adjustment_below, located_at, located_outside}
use Rattle.lookup.proofs.locate.Goals as goal

pub returns-then-table-bucket : goal.returns-then-table-bucket
returns-then-table-bucket c = sym (located_outside _ _ _ c.if-table-bucket.true)

pub narrow-low-requires : goal.narrow-low-requires
narrow-low-requires c =
    let s = c.args.table.formed in (
      rw (length-take-le _ _ s.ends_long) (among_taken _ _ s.ends_long (among_all _ _ _ s.some_intervals (omega (arith, s.last_end)))),
      ends_taken _ _ s.ends_long s.ends_rise,
    )

pub loop-count-init : goal.loop-count-init
loop-count-init c = among_kept _ _ c.args.table.formed.ends_long c.narrow-low.ensures.1

pub loop-count-preserved : goal.loop-count-preserved
loop-count-preserved c =
    among_less c.args.table.formed.ends_rise c.loop-count.invariant _ (omega arith) c.past-low.ensures

pub overflow_sub-result : goal.overflow_sub-result
overflow_sub-result c =
    omega (arith, adjustment_below c.args.table.header (arrays_of c.args.table) c.args.table.formed c.loop-count.low (omega arith))

pub returns : goal.returns
returns c =
    let turn = c.loop-count in
    let ends = c.args.table.ends.now in
    let one : turn.low + turn.count ≡ turn.low + 1 = omega arith in
    let inside : c.args.bucket < get_or ends turn.low 0 = omega (arith, turn.invariant.to, ap (before ends) one, before_next ends turn.low) in
    sym (located_at c.args.table.header (arrays_of c.args.table) c.args.table.formed turn.low c.args.bucket (omega arith) turn.invariant.from inside (omega arith))
