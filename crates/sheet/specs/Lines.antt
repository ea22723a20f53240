-- The parts of a sheet's line. Assumes nothing.
use Rattle.std.specs.Prelude.{ℕ, ◌-◌, List, [], ◌∷◌, ◌++◌}
use Rattle.model.specs.Basics.{from, joined}
use Rattle.model.specs.Table.{first_bin, block_bins}
use Rattle.model.specs.Sheet.{field}

-- the fields of an interval from bucket `start` up to bucket `end`: its first bucket and its last
unfoldable pub head_of : ℕ → ℕ → List ℕ
head_of start end = field start ++ field (end - 1)

-- the fields of its block j, and the line feed
unfoldable pub tail_of : List ℕ → ℕ → List ℕ
tail_of tops j = field j ++ (field (first_bin tops j) ++ (field (block_bins tops j) ++ (10 ∷ [])))

-- with a blank before it; and those of the first n blocks
unfoldable pub spaced_tail : List ℕ → ℕ → List ℕ
spaced_tail tops j = 32 ∷ tail_of tops j

unfoldable pub tails_of : List ℕ → ℕ → List ℕ
tails_of tops n = joined (from (spaced_tail tops) 0 n)
