use Rattle.std.proofs.Common.{refl}
use Rattle.print.proofs.Stores.{stored_next, stored_all}
use Rattle.print.proofs.put_word.Goals as goal

pub loop-i-init : goal.loop-i-init
loop-i-init c = refl

pub loop-i-preserved : goal.loop-i-preserved
loop-i-preserved c = stored_next _ _ _ _ _ c.loop-i-test.true c.loop-i.invariant

pub returns-clause-bytes : goal.returns-clause-bytes
returns-clause-bytes c = stored_all _ _ _ _ _ c.loop-i-test.false c.loop-i.invariant
