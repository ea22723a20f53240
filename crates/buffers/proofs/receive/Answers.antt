use Rattle.std.proofs.Common.{arith, refl}
use Rattle.buffers.proofs.Receiving.{receives_some, receives_feed, receives_none}
use Rattle.buffers.proofs.receive.Goals as goal

pub returns-then-got-gt0 : goal.returns-then-got-gt0
returns-then-got-gt0 c = receives_some _ _ _ _ c.requires.1 (omega arith) c.if-got-gt0.true c.requires.3 refl

pub returns-then-m-size : goal.returns-then-m-size
returns-then-m-size c =
    receives_feed _ _ _ _ c.requires.1 (omega arith) c.if-got-gt0.false c.if-m-size.true c.requires.2 refl

pub returns : goal.returns
returns c = receives_none _ _ _ _ c.requires.1 (omega arith) c.if-got-gt0.false c.if-m-size.false refl
