-- Document 01, 'The program rackmap': a session as the program holds it, two tables in arrays. Assumes nothing.
use Rattle.std.specs.Prelude.{ℕ, ◌≡◌, Bool, true, false, not, List, [], drop, eqb}
use Rattle.model.specs.Basics.{if◌then◌otherwise◌, ◌and◌}
use Rattle.model.specs.Limits.{max_capacity}
use Rattle.model.specs.Table.{Shape, Table, Arrays, table, header, written, sizes}
use Rattle.model.specs.Refusal.{first, room_short}
use Rattle.model.specs.Sound.{Sound}
use Rattle.model.specs.Initial.{initial}
use Rattle.model.specs.Expansion.{expanded}
use Rattle.model.specs.Calls.{answer, growth_tests}
use Rattle.model.specs.Console.{Session, empty, fresh, grown, line_tests, command_refusal, command_answer, answer_text, moves_of, move_text}
use Rattle.model.specs.declared.answer.Answer.{Answer}
use Rattle.model.specs.declared.answer.Answer.TheVariants as says
use Rattle.model.specs.declared.command.Command.{Command}
use Rattle.model.specs.declared.command.Command.TheVariants.{Fresh, Grow, Where, At, Moves, Unreadable}
use Rattle.session.specs.declared.state.Stage.{Stage}
use Rattle.session.specs.declared.state.Stage.TheVariants as stage
use Rattle.session.specs.declared.state.State.{State}
use Rattle.session.specs.declared.state.Step.{Step}

-- the state, the arrays of the map, and those of the other table
pub record Maps : Type 0 where
  pub state : State
  pub this : Arrays
  pub other : Arrays

abbrev pub maps : State → Arrays → Arrays → Maps
maps st a b = record { state = st; this = a; other = b }

unfoldable pub is_empty : Stage → Bool
is_empty stage.Empty = true
is_empty stage.Fresh = false
is_empty stage.Grown = false

unfoldable pub is_grown : Stage → Bool
is_grown stage.Empty = false
is_grown stage.Fresh = false
is_grown stage.Grown = true

-- the map, and the one before its latest growth
unfoldable pub map_of : Maps → Table
map_of m = table m.state.current m.this

unfoldable pub before_of : Maps → Table
before_of m = table m.state.before m.other

-- the session that is held
unfoldable pub session_at : Stage → Table → Table → Session
session_at stage.Empty t u = empty
session_at stage.Fresh t u = fresh u
session_at stage.Grown t u = grown t u

unfoldable pub session : Maps → Session
session m = session_at m.state.stage (before_of m) (map_of m)

-- ONE COMMAND

-- what an accepted command leaves: a fresh map is written over the map, a growth's over the other table
unfoldable pub performed : Maps → Command → Maps
performed m (Fresh b n) =
    maps
    (record { stage = stage.Fresh; flipped = m.state.flipped; bins = n; current = header (initial (sizes b n) max_capacity); before = m.state.before })
    (written (initial (sizes b n) max_capacity) m.this)
    m.other
performed m (Grow b n) =
    maps
    (record { stage = stage.Grown; flipped = not m.state.flipped; bins = n; current = header (expanded (map_of m) (sizes b n)); before = m.state.current })
    (written (expanded (map_of m) (sizes b n)) m.other)
    m.this
performed m (Where x) = m
performed m (At y p) = m
performed m Moves = m
performed m Unreadable = m

-- a refused command changes nothing
unfoldable pub next : Maps → Command → Maps
next m c = answer (command_refusal (session m) c) (performed m c) m

-- whether the two tables change their parts: by an accepted growth
unfoldable pub is_grow : Command → Bool
is_grow (Fresh b n) = false
is_grow (Grow b n) = true
is_grow (Where x) = false
is_grow (At y p) = false
is_grow Moves = false
is_grow Unreadable = false

unfoldable pub flips : Session → Command → Bool
flips s c = eqb (command_refusal s c) 0 and is_grow c

-- what an answer prints at once, and whether the `move` lines of the latest growth follow
unfoldable pub shown : Answer → List ℕ
shown a = answer_text empty a

unfoldable pub is_list : Answer → Bool
is_list (says.Refused r) = false
is_list (says.Table m k) = false
is_list (says.Place y p) = false
is_list (says.Bucket x) = false
is_list says.Moves = true

-- those lines from row q on, where they follow
unfoldable pub listed : Bool → ℕ → Session → List ℕ
listed follow q s = if follow then move_text (drop q (moves_of s)) otherwise []

-- a step r from m by the command c, which leaves the arrays a (that were the map's) and b (that were the other table's)
pub record Stepped (m : Maps) (c : Command) (r : Step) (a b : Arrays) : Type 0 where
  pub answer : r.answer ≡ command_answer (session m) c
  pub flip : r.flip ≡ flips (session m) c
  pub maps : (if r.flip then maps r.state b a otherwise maps r.state a b) ≡ next m c

-- r is the refusal of the command c by the tests of every line, whatever the tables hold
abbrev pub LineTested : State → Command → ℕ → Type 0
LineTested st c r = (this other : Arrays) → r ≡ first (line_tests (session (maps st this other)) c)

-- a step that leaves the other table alone, whatever it holds; one that reads the map
abbrev pub Renews : State → Arrays → Command → Step → Arrays → Type 0
Renews st this c r left = (other : Arrays) → Stepped (maps st this other) c r left other

abbrev pub Reads : State → Arrays → Command → Step → Type 0
Reads st this c r = Renews st this c r this

-- THE INVARIANT

-- a map, if there is one, is sound
abbrev pub Mapped : State → Arrays → Type 0
Mapped st this = is_empty st.stage ≡ false → Sound st.current this

-- there is one, and it is sound
abbrev pub HasMap : State → Arrays → Type 0
HasMap st this = (is_empty st.stage ≡ false) × Sound st.current this

-- the sizes of the map
unfoldable pub sizes_of : State → Shape
sizes_of st = sizes st.current.buckets st.bins

-- a map that is a growth of the other table
pub record GrownFrom (m : Maps) : Type 0 where
  pub sound : Sound m.state.before m.other
  pub asked : first (growth_tests (before_of m) (sizes_of m.state)) ≡ 0
  pub made : map_of m ≡ expanded (before_of m) (sizes_of m.state)

-- what every step keeps: room in both tables, and a sound map
pub record Right (m : Maps) : Type 0 where
  pub room : room_short m.this ≡ false
  pub other_room : room_short m.other ≡ false
  pub sound : Mapped m.state m.this
  pub grown : is_grown m.state.stage ≡ true → GrownFrom m
