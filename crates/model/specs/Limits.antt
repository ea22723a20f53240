-- Document 01, 'Words and sizes': the limits. Assumes nothing.
use Rattle.std.specs.Prelude.{ℕ}

-- B, the number of buckets, is 1 to this
abbrev pub max_buckets : ℕ
max_buckets = 1_000_000_000

-- P, the capacity, which is the number of positions in every bin (drawer), is 1 to this
abbrev pub max_capacity : ℕ
max_capacity = 1_000_000_000

-- the positions of a bin that hold its label: the first ones, so positions of buckets start here
abbrev pub label : ℕ
label = 8

-- n, the number of bins (drawers), is 1 to this
abbrev pub max_bins : ℕ
max_bins = 65_535

-- G, the number of blocks (groups), is 1 to this
abbrev pub max_blocks : ℕ
max_blocks = 65

-- k, the number of intervals (runs), is 1 to this
abbrev pub max_intervals : ℕ
max_intervals = 2_081

-- the most expansions (growths) that `room` answers for
abbrev pub max_expansions : ℕ
max_expansions = 64
