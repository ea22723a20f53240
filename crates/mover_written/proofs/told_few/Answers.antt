use mathlib.Core.Path.{refl}
use Rattle.mover_written.specs.Carry.{told_short}
use Rattle.mover_written.proofs.told_few.Goals as goal

pub returns-in-Some : goal.returns-in-Some
unfolding told_short
returns-in-Some c g e = rw (c.in-Some.is, e) c.bits_short.ensures

pub returns-in-None : goal.returns-in-None
unfolding told_short
returns-in-None c g e = rw c.in-None.is refl
