-- The parts of a printed line. Assumes nothing.
use Rattle.std.specs.Prelude.{ℕ, List, [], ◌∷◌, ◌++◌, map}
use Rattle.model.specs.Basics.{joined}
use Rattle.model.specs.Decimal.{decimal}

-- the room that a printed line is given, and how long a `move` line is at the most
abbrev pub line_room : ℕ
line_room = 64

abbrev pub move_room : ℕ
move_room = 60

-- numbers in decimal, a blank before each
unfoldable pub numbers : List ℕ → List ℕ
numbers ns = joined (map (λ n. 32 ∷ decimal n) ns)

-- the bytes of a word, numbers and a line feed
unfoldable pub line_of : List ℕ → List ℕ → List ℕ
line_of word ns = word ++ numbers ns ++ (10 ∷ [])
