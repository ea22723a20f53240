-- Document 01, 'Where a bucket is', and the drawer count. Assumes nothing.
use Rattle.std.specs.Prelude.{ℕ, ◌+◌, ◌-◌, ◌/◌, ◌%◌, not, List, [], ◌∷◌, map, ltb, eqb}
use Rattle.model.specs.Basics.{if◌then◌otherwise◌, count, joined}
use Rattle.model.specs.Limits.{label}
use Rattle.model.specs.Table.{Interval, interval, Table, first_bin, block_bins}

-- the interval of bucket x: the first one that ends past x
unfoldable pub interval_of : List Interval → ℕ → Interval
interval_of [] x = interval 0 0 0
interval_of (i ∷ rest) x = if ltb x i.end then i otherwise interval_of rest x

unfoldable pub block_of : Table → ℕ → ℕ
block_of t x = (interval_of t.intervals x).block

-- the rank of bucket x: x minus the adjustment of its interval
unfoldable pub rank : Table → ℕ → ℕ
rank t x = x - (interval_of t.intervals x).adjustment

-- the bin (drawer) of rank r of block j, and the position there: the source's, past the label
abbrev pub bin_of : List ℕ → ℕ → ℕ → ℕ
bin_of tops j r = first_bin tops j + r % block_bins tops j

abbrev pub position_of : List ℕ → ℕ → ℕ → ℕ
position_of tops j r = r / block_bins tops j + label

-- the bin of bucket x, and its position there
unfoldable pub bin : Table → ℕ → ℕ
bin t x = bin_of t.tops (block_of t x) (rank t x)

unfoldable pub position : Table → ℕ → ℕ
position t x = position_of t.tops (block_of t x) (rank t x)

-- the two numbers of bucket x's place; those of a list of buckets, each in turn
unfoldable pub place : Table → ℕ → List ℕ
place t x = bin t x ∷ position t x ∷ []

unfoldable pub places : Table → List ℕ → List ℕ
places t xs = joined (map (place t) xs)

-- how many buckets below m belong to block j, and how many to other blocks
unfoldable pub held : Table → ℕ → ℕ → ℕ
held t j m = count (λ x. eqb (block_of t x) j) m

unfoldable pub others : Table → ℕ → ℕ → ℕ
others t j m = count (λ x. not (eqb (block_of t x) j)) m

-- the size of bin y in a map f: how many of the first b buckets f puts into it
unfoldable pub size : (ℕ → ℕ) → ℕ → ℕ → ℕ
size f b y = count (λ x. eqb (f x) y) b

-- the size of bin y (drawer count): the number of buckets in it
unfoldable pub bin_size : Table → ℕ → ℕ
bin_size t y = size (bin t) t.buckets y
