-- The lines of a block answered. Assumes nothing.
use Rattle.std.specs.Prelude.{ℕ, ◌+◌, ◌<◌, ◌≡◌, true, false, List}
use Rattle.console.specs.Rack.{Rack}
use Rattle.standing.specs.Standing.{Idle}
use Rattle.buffers.specs.Machine.{stands}
use Rattle.buffers.specs.declared.Machine.{Machine}
use Rattle.wheres.specs.Wheres.{Went}
use Rattle.pages.specs.declared.After.{After}

-- the lines of the bytes answered
pub record Answers (m : Machine) (k : Rack) (bytes : List ℕ) (put : ℕ) (out : List ℕ) (m' : Machine) (k' : Rack) (r : After) (out' : List ℕ) : Type 0 where
  pub went : Went m k bytes put out m' k' r.put out'
  pub done : r.more ≡ false → Idle (stands m' k' bytes)
  pub more : r.more ≡ true → m.from < m'.from + r.put
