-- The parts in which a number's digits are stored. Assumes nothing.
use Rattle.std.specs.Prelude.{ℕ, ◌+◌, ◌/◌, ◌%◌, List, [], ◌∷◌, ◌++◌}

-- the two digits of a number below 100, the tens first
abbrev pub pair_of : ℕ → List ℕ
pair_of p = (48 + p / 10) ∷ (48 + p % 10) ∷ []

-- the four digits of a number below 10,000
abbrev pub four_of : ℕ → List ℕ
four_of x = pair_of (x / 100) ++ pair_of (x % 100)
