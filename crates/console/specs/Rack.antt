-- Document 01, 'The program rackmap': what one line prints at once, and what the two tables hold after it. Assumes nothing.
use Rattle.std.specs.Prelude.{ℕ, ◌+◌, ◌≡◌, List, length}
use Rattle.std.proofs.lemmas.List.Edits.{sets}
use Rattle.model.specs.Basics.{if◌then◌otherwise◌}
use Rattle.model.specs.Table.{Table, Arrays}
use Rattle.model.specs.Search.{place_at}
use Rattle.model.specs.Calls.{answer}
use Rattle.model.specs.Console.{read, moves_of, command_answer}
use Rattle.model.specs.declared.answer.Answer.{Answer}
use Rattle.model.specs.declared.answer.Answer.TheVariants as says
use Rattle.session.specs.Maps.{Maps, maps, session, next, shown, is_list}
use Rattle.session.specs.declared.state.State.{State}
use Rattle.console.specs.declared.Reply.{Reply}

-- the state, and the two tables; the map is in the second one where they are flipped
pub record Rack : Type 0 where
  pub state : State
  pub one : Arrays
  pub two : Arrays

abbrev pub rack : State → Arrays → Arrays → Rack
rack st one two = record { state = st; one = one; two = two }

unfoldable pub held : Rack → Maps
held k = if k.state.flipped then maps k.state k.two k.one otherwise maps k.state k.one k.two

-- the rows of the latest growth
abbrev pub moves_in : Rack → List (List ℕ)
moves_in k = moves_of (session (held k))

-- the answer to a line
unfoldable pub answer_to : Rack → List ℕ → Answer
answer_to k l = command_answer (session (held k)) (read l)

-- the answer to `where x` on the map t
unfoldable pub where_answer : Table → ℕ → Answer
where_answer t x =
    answer (place_at t x).refusal
    (says.Place (place_at t x).bin (place_at t x).position)
    (says.Refused (place_at t x).refusal)

-- a line l served: its reply r and the rack k' after it; what it prints at once is stored in a buffer from place x on
pub record Served (k : Rack) (l : List ℕ) (x : ℕ) (old : List ℕ) (r : Reply) (k' : Rack) (new : List ℕ) : Type 0 where
  pub maps : held k' ≡ next (held k) (read l)
  pub list : r.list ≡ is_list (answer_to k l)
  pub place : r.at ≡ x + length (shown (answer_to k l))
  pub bytes : new ≡ sets old x (shown (answer_to k l))
