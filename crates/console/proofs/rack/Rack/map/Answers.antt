use Rattle.model.specs.Basics.{if◌then◌otherwise◌}
use Rattle.console.specs.Rack.{held}
use Rattle.console.proofs.rack.Rack.map.Goals as goal

pub returns-in-true : goal.returns-in-true
unfolding held if◌then◌otherwise◌
returns-in-true c = rw c.in-true.is

pub returns-in-false : goal.returns-in-false
unfolding held if◌then◌otherwise◌
returns-in-false c = rw c.in-false.is
