-- A machine as the code holds it. Assumes nothing.
use Rattle.std.specs.Prelude.{ℕ, ◌≤◌, ◌≡◌, Bool, true, false, is_some, unwrap_or, List, length, take, drop}
use Rattle.lines.specs.Words.{up_to_feed}
use Rattle.model.specs.Table.{Arrays}
use Rattle.model.specs.Refusal.{room_short}
use Rattle.session.specs.Maps.{session, Right}
use Rattle.session.specs.declared.state.State.{State}
use Rattle.console.specs.Rack.{Rack, rack, held, moves_in}
use Rattle.standing.specs.Standing.{Standing, beginning, received}
use Rattle.buffers.specs.declared.Machine.{Machine}

-- the bytes kept of an unfinished line: more than a readable line has
abbrev pub kept_bytes : ℕ
kept_bytes = 65

-- whether a move list is in progress, and its next row
abbrev pub lists : Machine → Bool
lists m = is_some m.listing

abbrev pub row_of : Machine → ℕ
row_of m = unwrap_or m.listing 0

-- where a machine stands in the bytes that are read
unfoldable pub stands : Machine → Rack → List ℕ → Standing
stands m k bytes = record { listing = lists m; row = row_of m; session = session (held k); rest = drop m.from bytes }

-- the bytes that are read, of a block
abbrev pub bytes_of : Machine → List ℕ → List ℕ
bytes_of m block = take m.size block

-- what is kept of an unfinished line: its first bytes, which say as much as all of it; and the machine that has them at the front
abbrev pub unfinished : Machine → List ℕ → List ℕ
unfinished m block = take kept_bytes (drop m.from (bytes_of m block))

abbrev pub keeping : Machine → List ℕ → Machine
keeping m block = record { listing = m.listing; from = 0; size = length (unfinished m block) }

-- what every machine of a run has: sound tables, a row of the list in progress, and places within the block
pub record Sane (m : Machine) (k : Rack) : Type 0 where
  pub right : Right (held k)
  pub row : lists m ≡ true → row_of m ≤ length (moves_in k)

pub record Ready (m : Machine) (k : Rack) (block : List ℕ) : Type 0 where
  pub sane : Sane m k
  pub from : m.from ≤ m.size
  pub size : m.size ≤ length block

-- nothing is left to do, whatever the tables hold: no list is in progress, and few bytes of an unfinished line are left
pub record Rests (m : Machine) (block : List ℕ) : Type 0 where
  pub listing : lists m ≡ false
  pub rest : up_to_feed (drop m.from (bytes_of m block)) ≡ drop m.from (bytes_of m block)
  pub few : m.size ≤ kept_bytes

-- a machine that begins, whatever the block holds
pub record Begins (r : Machine) (k : Rack) : Type 0 where
  pub stands : (block : List ℕ) → stands r k (bytes_of r block) ≡ beginning
  pub ready : (block : List ℕ) → Ready r k block
  pub rests : (block : List ℕ) → Rests r block

-- a machine that begins with a state, whatever the two tables and the block hold: both tables have room for any table
pub record BeginsWith (r : Machine) (st : State) : Type 0 where
  pub stands : (one two : Arrays) (block : List ℕ) → stands r (rack st one two) (bytes_of r block) ≡ beginning
  pub ready
      : (one two : Arrays) (block : List ℕ) → room_short one ≡ false → room_short two ≡ false
      → Ready r (rack st one two) block
  pub rests : (block : List ℕ) → Rests r block

-- `got` bytes received behind those that are read, whatever the tables hold
pub record Receives (m : Machine) (got : ℕ) (block : List ℕ) (r : Machine) (block' : List ℕ) : Type 0 where
  pub stands
      : (k : Rack)
      → stands r k (bytes_of r block') ≡ received (take got (drop m.size block)) (stands m k (bytes_of m block))
  pub ready : (k : Rack) → Ready m k block → Ready r k block'
