-- Document 01, 'Where a bucket is': due sizes. Assumes nothing.
use Rattle.std.specs.Prelude.{ℕ, ◌+◌, ◌/◌, ◌%◌, List, ltb}
use Rattle.model.specs.Basics.{if◌then◌otherwise◌, sum}
use Rattle.model.specs.Table.{Shape, first_bin, block_bins}

-- the due size of bin y in a map of the given sizes
unfoldable pub due : Shape → ℕ → ℕ
due s y = if ltb y (s.buckets % s.bins) then s.buckets / s.bins + 1 otherwise s.buckets / s.bins

-- what the d bins from f on are due: the sum over them
unfoldable pub due_of_bins : Shape → ℕ → ℕ → ℕ
due_of_bins s f d = sum (λ i. due s (f + i)) d

-- what block j is due
unfoldable pub due_of_block : Shape → List ℕ → ℕ → ℕ
due_of_block s tops j = due_of_bins s (first_bin tops j) (block_bins tops j)
