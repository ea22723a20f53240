-- The pairs of digits from which short fields are copied. Assumes nothing.
use Rattle.std.specs.Prelude.{ℕ, ◌≡◌, List, take}
use Rattle.model.specs.Basics.{from, joined}
use Rattle.digits.specs.Parts.{pair_of}

-- the pairs of all numbers below n, one after the other
unfoldable pub pairs_to : ℕ → List ℕ
pairs_to n = joined (from pair_of 0 n)

-- a list that begins with those of the numbers below 100
abbrev pub HoldsPairs : List ℕ → Type 0
HoldsPairs xs = take 200 xs ≡ pairs_to 100
