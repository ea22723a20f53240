use Rattle.rows.proofs.Spans.{slot_placed}
use Rattle.rows.proofs.Runs.{turned_slot}
use Rattle.rows.proofs.turn_of.Goals as goal

pub returns : goal.returns
returns c = turned_slot _ _ _ _ (slot_placed c.requires c.slot_of-slot.ensures)
