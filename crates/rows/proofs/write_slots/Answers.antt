use Rattle.rows.proofs.Spans.{spanning_starts, spanning_more}
use Rattle.rows.proofs.write_slots.Goals as goal

pub loop-x-init : goal.loop-x-init
loop-x-init c = spanning_starts c.requires c.slot_of-here.ensures c.slot_of-there.ensures

pub loop-x-preserved : goal.loop-x-preserved
loop-x-preserved c =
    spanning_more c.requires c.loop-x.invariant c.loop-x-test.true c.write_row.ensures c.next_slot-here.ensures c.next_slot-there.ensures
