use mathlib.Core.Path.{refl, ap}
use mathlib.Core.Bool.{not}
use Rattle.mover_written.specs.Carry.{is_written}
use Rattle.mover_written.proofs.is_blank.Goals as goal

pub returns-in-Some : goal.returns-in-Some
unfolding is_written
returns-in-Some c = rw c.in-Some.is (ap not c.is_written.ensures)

pub returns-in-None : goal.returns-in-None
unfolding is_written
returns-in-None c = rw c.in-None.is refl
