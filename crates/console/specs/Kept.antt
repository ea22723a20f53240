-- A session's rack as the program keeps it. Assumes nothing.
use Rattle.session.specs.Held.{arrays_of}
use Rattle.console.specs.Rack.{Rack, rack}
use Rattle.console.specs.declared.rack.Rack.{Rack as Kept}

-- its state, and the arrays of its two tables
abbrev pub rack_of : Kept → Rack
rack_of k = rack k.state (arrays_of k.first) (arrays_of k.second)
