-- The program as a machine without input and output: where it stands, what is due, and what a turn is. Assumes nothing.
use Rattle.std.specs.Prelude.{ℕ, ◌+◌, ◌<◌, ◌≡◌, Bool, true, false, List, [], ◌∷◌, ◌++◌, length}
use Rattle.model.specs.Console.{Session, empty, lines_of, after_all, printed_all}
use Rattle.lines.specs.Words.{up_to_feed}
use Rattle.session.specs.Maps.{listed}

-- where a machine stands: whether a move list is in progress and its next row, the session, and the bytes that are read and not
-- yet answered, the unfinished line among them
pub record Standing : Type 0 where
  pub listing : Bool
  pub row : ℕ
  pub session : Session
  pub rest : List ℕ

-- before the first block
abbrev pub beginning : Standing
beginning = record { listing = false; row = 0; session = empty; rest = [] }

-- what is due where the input goes on with `more`, and the session at its end
unfoldable pub due : Standing → List ℕ → List ℕ
due s more = listed s.listing s.row s.session ++ printed_all s.session (lines_of (s.rest ++ more))

unfoldable pub ending : Standing → List ℕ → Session
ending s more = after_all s.session (lines_of (s.rest ++ more))

-- from s, with the bytes `put` in the buffer, to s' with `put'`: nothing due is lost, changed, added or said twice, however the
-- input goes on
pub record Goes (put : List ℕ) (s : Standing) (put' : List ℕ) (s' : Standing) : Type 0 where
  pub text : (more : List ℕ) → put' ++ due s' more ≡ put ++ due s more
  pub session : (more : List ℕ) → ending s' more ≡ ending s more

-- nothing is left to do: no list is in progress, and what is left of the block is an unfinished line, without a line feed
pub record Idle (s : Standing) : Type 0 where
  pub listing : s.listing ≡ false
  pub rest : up_to_feed s.rest ≡ s.rest

-- a turn from s to s': what was due before is the bytes that it puts into the empty buffer and what is due afterwards, and the
-- session at the end is the same; no more means that nothing is left to do, and more that something was done
pub record Turned (s : Standing) (put : List ℕ) (more : Bool) (s' : Standing) : Type 0 where
  pub goes : Goes [] s put s'
  pub done : more ≡ false → Idle s'
  pub onward : more ≡ true → length s'.rest < length s.rest + length put

-- what follows the bytes that are left: the bytes read; or, where none are read, the input has ended, and a line feed ends an
-- unfinished line
unfoldable pub heard : List ℕ → List ℕ → List ℕ
heard (c ∷ b) rest = c ∷ b
heard [] [] = []
heard [] (c ∷ rest) = 10 ∷ []

abbrev pub received : List ℕ → Standing → Standing
received b s = record { listing = s.listing; row = s.row; session = s.session; rest = s.rest ++ heard b s.rest }
