-- Document 01, 'Move list, placing, finding, keeping': placing and finding by their searches over the intervals. Each search
-- answers an option, and one definition gives document 01's number and values for each of its cases. Assumes nothing.
use Rattle.std.specs.Prelude.{ℕ, suc, ◌+◌, ◌-◌, ◌*◌, Bool, List, [], ◌∷◌, get_or, leb, ltb, eqb, Some, None}
use Rattle.model.specs.Basics.{if◌then◌otherwise◌, ◌and◌}
use Rattle.model.specs.Limits.{label}
use Rattle.model.specs.Table.{Interval, interval, Table, first_bin, block_bins}
use Rattle.model.specs.Place.{rank, bin_of, position_of}
use Rattle.model.specs.Refusal.{bucket_past, labelled}
use Rattle.std.specs.declared.option.Option.{Option}
use Rattle.model.specs.declared.search.Located.{Located}
use Rattle.model.specs.declared.reply.PlaceReply.{PlaceReply}
use Rattle.model.specs.declared.reply.FindReply.{FindReply}

-- the interval at place i, from 0
unfoldable pub interval_at : Table → ℕ → Interval
interval_at t i = get_or t.intervals i (interval 0 0 0)

-- PLACING

-- the place of bucket x's interval: the first one that ends past x
unfoldable pub index_of : List Interval → ℕ → ℕ
index_of [] x = 0
index_of (i ∷ rest) x = if ltb x i.end then 0 otherwise suc (index_of rest x)

-- what the search for a bucket's interval answers: its place and the bucket's rank, or that the bucket is not below B
unfoldable pub located : Table → ℕ → Option Located
located t x =
    if bucket_past t x then None otherwise Some (record { interval = index_of t.intervals x; rank = rank t x })

-- its number and values: the bin and position of the rank in the interval's block, or 6 and zeros
unfoldable pub place_of : Table → Option Located → PlaceReply
place_of t (Some l) =
    record {
      refusal = 0;
      bin = bin_of t.tops (interval_at t l.interval).block l.rank;
      position = position_of t.tops (interval_at t l.interval).block l.rank;
    }
place_of t None = record { refusal = 6; bin = 0; position = 0 }

-- what placing bucket x answers
unfoldable pub place_at : Table → ℕ → PlaceReply
place_at t x = place_of t (located t x)

-- FINDING

-- the block of bin y: the first whose top is past y
unfoldable pub block_of_bin : List ℕ → ℕ → ℕ
block_of_bin [] y = 0
block_of_bin (top ∷ rest) y = if ltb y top then 0 otherwise suc (block_of_bin rest y)

-- the rank that belongs at position p of bin y, past its label
unfoldable pub rank_at : List ℕ → ℕ → ℕ → ℕ
rank_at tops y p = (p - label) * block_bins tops (block_of_bin tops y) + (y - first_bin tops (block_of_bin tops y))

-- whether an interval from s on is of block j and its ranks include r
unfoldable pub includes : ℕ → Interval → ℕ → ℕ → Bool
includes s i j r = eqb i.block j and leb s (r + i.adjustment) and ltb (r + i.adjustment) i.end

-- what the search for a rank of block j answers: the place of the first interval of the block whose ranks include it,
-- or that there is none. The intervals here start at bucket s, and the first of them has place k.
unfoldable pub holder : List Interval → ℕ → ℕ → ℕ → ℕ → Option ℕ
holder [] s k j r = None
holder (i ∷ rest) s k j r = if includes s i j r then Some k otherwise holder rest i.end (suc k) j r

-- its number and value where r is the rank: the bucket, which is the rank plus the interval's adjustment, or 7 and 0
unfoldable pub found_of : Table → ℕ → Option ℕ → FindReply
found_of t r (Some k) = record { refusal = 0; bucket = r + (interval_at t k).adjustment }
found_of t r None = record { refusal = 7; bucket = 0 }

-- what the search for the rank of position p of bin y answers; at a position of the label there is none
unfoldable pub held_at : Table → ℕ → ℕ → Option ℕ
held_at t y p =
    if labelled p then None otherwise holder t.intervals 0 0 (block_of_bin t.tops y) (rank_at t.tops y p)

-- what finding at position p of bin y answers, where y is below n
unfoldable pub found_at : Table → ℕ → ℕ → FindReply
found_at t y p = found_of t (rank_at t.tops y p) (held_at t y p)

-- the bucket there
unfoldable pub bucket_at : Table → ℕ → ℕ → ℕ
bucket_at t y p = (found_at t y p).bucket
