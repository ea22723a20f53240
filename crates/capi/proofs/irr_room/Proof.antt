-- `capi::irr_room` meets its contract: that of the call it forwards. Assumes nothing.
use borrow.Author.Rules.{rules}
use Rattle.capi.proofs.irr_room.Statement.{statement}
use Rattle.capi.proofs.irr_room.Tie as tie

room-requires : tie.Need-room-requires
room-requires c κs = search rules

returns : tie.Need-returns
returns c = c.room.ensures

pub irr_room_spec : {M : Type 1} → statement M
irr_room_spec = tie.close (tie.spec
    room-requires
    returns)
