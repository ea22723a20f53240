-- How a machine goes on in the bytes that are read, and over `where` lines. Assumes nothing.
use Rattle.std.specs.Prelude.{ℕ, ◌≤◌, ◌≡◌, false, List, length, take}
use Rattle.model.specs.Table.{Table}
use Rattle.session.specs.Maps.{is_empty, map_of}
use Rattle.console.specs.Rack.{Rack, held}
use Rattle.standing.specs.Standing.{Goes}
use Rattle.buffers.specs.Machine.{lists, stands, Sane}
use Rattle.buffers.specs.declared.Machine.{Machine}
use Rattle.wheres.specs.declared.Spot.{Spot}

-- the machine has gone on in the bytes that are read, with `put` bytes in the buffer before and `put'` after
pub record Went
    (m : Machine) (k : Rack) (bytes : List ℕ) (put : ℕ) (out : List ℕ) (m' : Machine) (k' : Rack) (put' : ℕ) (out' : List ℕ)
    : Type 0
  where
    pub goes : Goes (take put out) (stands m k bytes) (take put' out') (stands m' k' bytes)
    pub sane : Sane m' k'
    pub room : put' ≤ length out'
    pub size : m'.size ≡ m.size
    pub onward : m.from ≤ m'.from
    pub within : m'.from ≤ length bytes

-- a machine at another place of its bytes
abbrev pub on_to : Machine → ℕ → Machine
on_to m from = record { listing = m.listing; from = from; size = m.size }

-- a machine with no list in progress, whose map is t
pub record Shows (m : Machine) (k : Rack) (t : Table) : Type 0 where
  pub listing : lists m ≡ false
  pub some : is_empty (held k).state.stage ≡ false
  pub map : map_of (held k) ≡ t
  pub sane : Sane m k

-- `where` lines answered on the map t, from a place of the bytes on, by whatever machine has that map
pub record Places (t : Table) (bytes : List ℕ) (from put : ℕ) (out : List ℕ) (r : Spot) (out' : List ℕ) : Type 0 where
  pub within : r.from ≤ length bytes
  pub room : r.put ≤ length out'
  pub went
      : (m : Machine) (k : Rack) → m.from ≡ from → Shows m k t → Went m k bytes put out (on_to m r.from) k r.put out'
