-- `sizes::room_short` meets its contract. Assumes nothing.
use borrow.Author.Tests.{lt-ltb, le-ltb}
use Rattle.model.specs.Basics.{◌or◌}
use Rattle.model.specs.Refusal.{room_short}
use Rattle.sizes.proofs.room_short.Statement.{statement}
use Rattle.sizes.proofs.room_short.Tie as tie

returns : tie.Need-returns-then-tops-lt-BLOCKS
unfolding room_short ◌or◌
returns c = rw (lt-ltb _ _ c.if-tops-lt-BLOCKS.true)

returns-2 : tie.Need-returns-then-ends-lt-INTERVALS
unfolding room_short ◌or◌
returns-2 c = rw (le-ltb _ _ c.before.if-tops-lt-BLOCKS.false, lt-ltb _ _ c.if-ends-lt-INTERVALS.true)

returns-3 : tie.Need-returns-then-blocks-lt-INTERVALS
unfolding room_short ◌or◌
returns-3 c = rw (le-ltb _ _ c.before.before.if-tops-lt-BLOCKS.false, le-ltb _ _ c.before.if-ends-lt-INTERVALS.false, lt-ltb _ _ c.if-blocks-lt-INTERVALS.true)

returns-4 : tie.Need-returns
unfolding room_short ◌or◌
returns-4 c = rw (le-ltb _ _ c.before.before.if-tops-lt-BLOCKS.false, le-ltb _ _ c.before.if-ends-lt-INTERVALS.false, le-ltb _ _ c.if-blocks-lt-INTERVALS.false)

pub room_short_spec : {M : Type 1} → statement M
room_short_spec = tie.close (tie.spec
    returns
    returns-2
    returns-3
    returns-4)
