-- A whole input: what the machine's turns put, one after the other. Assumes nothing.
use Rattle.std.specs.Prelude.{ℕ, ◌≡◌, Bool, true, false, List, [], ◌∷◌}
use Rattle.model.specs.Basics.{joined}
use Rattle.model.specs.Console.{output}
use Rattle.standing.specs.Standing.{Standing, beginning, Idle, Turned, received}

-- From a standing on, with the input still going or ended, and with the blocks that are still to be read: the pieces that are put.
-- A turn puts a piece; a block is read; at the end of the input, where nothing is left to do, an unfinished line is ended; and
-- when nothing is left to do then, the run stops.
pub data Pieces : Bool → Standing → List (List ℕ) → List (List ℕ) → Type 0 where
  turn
      : {going : Bool} {s s' : Standing} {put : List ℕ} {more : Bool} {bs ps : List (List ℕ)} → Turned s put more s'
      → Pieces going s' bs ps → Pieces going s bs (put ∷ ps)
  read
      : {s : Standing} {c : ℕ} {b : List ℕ} {bs ps : List (List ℕ)} → Pieces true (received (c ∷ b) s) bs ps
      → Pieces true s ((c ∷ b) ∷ bs) ps
  close : {s : Standing} {ps : List (List ℕ)} → Idle s → Pieces false (received [] s) [] ps → Pieces true s [] ps
  stop : {s : Standing} → Idle s → Pieces false s [] []

-- However an input is cut into blocks, the pieces are document 01's output, byte for byte.
abbrev pub OutputWhole : Type 0
OutputWhole = (blocks pieces : List (List ℕ)) → Pieces true beginning blocks pieces → joined pieces ≡ output (joined blocks)
