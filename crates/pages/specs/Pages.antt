-- A page of the move list in progress. Assumes nothing.
use Rattle.std.specs.Prelude.{ℕ, ◌≤◌, ◌<◌, ◌≡◌, true, false, List, length}
use Rattle.console.specs.Rack.{Rack}
use Rattle.buffers.specs.Machine.{lists}
use Rattle.buffers.specs.declared.Machine.{Machine}
use Rattle.wheres.specs.Wheres.{Went}
use Rattle.pages.specs.declared.After.{After}

-- a page of the list in progress, if there is one, put into the empty buffer; whatever is read. The tables are as they were.
pub record Pages (m : Machine) (k : Rack) (out : List ℕ) (m' : Machine) (k' : Rack) (r : After) (out' : List ℕ) : Type 0 where
  pub went : (bytes : List ℕ) → m.from ≤ length bytes → Went m k bytes 0 out m' k' r.put out'
  pub done : r.more ≡ false → lists m' ≡ false
  pub more : r.more ≡ true → 0 < r.put
  pub rack : k' ≡ k
