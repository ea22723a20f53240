-- What is proved of a session. Each claim is a type. Assumes nothing.
use Rattle.std.specs.Prelude.{◌≡◌, List, ◌++◌, ℕ}
use Rattle.model.specs.Console.{Session, read, command_answer, after, printed}
use Rattle.model.specs.declared.command.Command.{Command}
use Rattle.session.specs.Maps.{Maps, session, next, shown, is_list, listed, Right}

-- what a step leaves is document 01's session after the line
abbrev pub SessionKept : Type 0
SessionKept = (m : Maps) (l : List ℕ) → session (next m (read l)) ≡ after (session m) l

-- what a step's answer prints, with the `move` lines where they follow, is what document 01 prints for the line
abbrev pub SessionSpoken : Type 0
SessionSpoken =
    (s : Session) (l : List ℕ)
    → shown (command_answer s (read l)) ++ listed (is_list (command_answer s (read l))) 0 (after s l) ≡ printed s l

-- every step keeps the invariant: room in both tables, and a sound map
abbrev pub SessionRight : Type 0
SessionRight = (m : Maps) (c : Command) → Right m → Right (next m c)

pub record SessionClaims : Type 0 where
  pub kept : SessionKept
  pub spoken : SessionSpoken
  pub right : SessionRight
