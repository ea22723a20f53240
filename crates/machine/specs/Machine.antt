-- A turn of the machine. Assumes nothing.
use Rattle.std.specs.Prelude.{ℕ, ◌≤◌, ◌≡◌, false, List, length, take}
use Rattle.console.specs.Rack.{Rack}
use Rattle.standing.specs.Standing.{Turned}
use Rattle.buffers.specs.Machine.{stands, bytes_of, Ready, Rests}
use Rattle.buffers.specs.declared.Machine.{Machine}
use Rattle.pages.specs.declared.After.{After}

-- a turn of the machine
pub record Turns (m : Machine) (k : Rack) (block : List ℕ) (m' : Machine) (k' : Rack) (r : After) (block' out : List ℕ) : Type 0 where
  pub turned : Turned (stands m k (bytes_of m block)) (take r.put out) r.more (stands m' k' (bytes_of m' block'))
  pub ready : Ready m' k' block'
  pub room : r.put ≤ length out
  pub rests : r.more ≡ false → Rests m' block'
