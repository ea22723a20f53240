use borrow.Author.Tests.{lt-ltb, le-ltb}
use Rattle.model.specs.Basics.{if◌then◌otherwise◌}
use Rattle.model.specs.Refusal.{first}
use Rattle.model.specs.Room.{room}
use Rattle.model.specs.Calls.{answer, room_refusal, room_reply}
use Rattle.sizes.proofs.room.Goals as goal

pub returns-then-expansions-gt-MAX_EXPANSIONS : goal.returns-then-expansions-gt-MAX_EXPANSIONS
unfolding room_reply room_refusal answer first if◌then◌otherwise◌
returns-then-expansions-gt-MAX_EXPANSIONS c = rw (lt-ltb 64 c.args.expansions c.if-expansions-gt-MAX_EXPANSIONS.true)

pub returns : goal.returns
unfolding room_reply room_refusal answer first room if◌then◌otherwise◌
returns c = rw (le-ltb 64 c.args.expansions c.if-expansions-gt-MAX_EXPANSIONS.false)
