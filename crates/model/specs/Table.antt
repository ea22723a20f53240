-- Document 01, 'Words and sizes': sizes, and a table as a mapping and as it is lent. Assumes nothing.
use Rattle.std.specs.Prelude.{ℕ, ◌-◌, List, ◌++◌, map, length, get_or, take, drop}
use Rattle.model.specs.Basics.{from, before}
use Rattle.model.specs.declared.table.Header.{Header}

-- the sizes of a map: B buckets in n bins (drawers)
pub record Shape : Type 0 where
  pub buckets : ℕ
  pub bins : ℕ

abbrev pub sizes : ℕ → ℕ → Shape
sizes b n = record { buckets = b; bins = n }

-- an interval (run): its end, the first bucket past it; its block (group); its rank adjustment.
-- It starts at the end of the interval before it, the first one at bucket 0.
pub record Interval : Type 0 where
  pub end : ℕ
  pub block : ℕ
  pub adjustment : ℕ

abbrev pub interval : ℕ → ℕ → ℕ → Interval
interval end block adjustment = record { end = end; block = block; adjustment = adjustment }

-- a table: B; the capacity P; the tops, one a block, each the number of bins up to and including the block; the intervals
pub record Table : Type 0 where
  pub buckets : ℕ
  pub capacity : ℕ
  pub tops : List ℕ
  pub intervals : List Interval

-- n: the last top
unfoldable pub bins : Table → ℕ
bins t = before t.tops (length t.tops)

unfoldable pub shape : Table → Shape
shape t = record { buckets = t.buckets; bins = bins t }

-- the first bin of block j, and the number of its bins
unfoldable pub first_bin : List ℕ → ℕ → ℕ
first_bin tops j = before tops j

unfoldable pub block_bins : List ℕ → ℕ → ℕ
block_bins tops j = get_or tops j 0 - first_bin tops j

-- the four arrays of a table, as they are lent
pub record Arrays : Type 0 where
  pub tops : List ℕ
  pub ends : List ℕ
  pub blocks : List ℕ
  pub adjustments : List ℕ

abbrev pub arrays : List ℕ → List ℕ → List ℕ → List ℕ → Arrays
arrays tops ends blocks adjustments = record { tops = tops; ends = ends; blocks = blocks; adjustments = adjustments }

-- the table that a header and four arrays give: G tops, and k intervals; entries past those are not part of it
unfoldable pub table : Header → Arrays → Table
table h a =
    record {
      buckets = h.buckets;
      capacity = h.capacity;
      tops = take h.block_count a.tops;
      intervals = from (λ i. interval (get_or a.ends i 0) (get_or a.blocks i 0) (get_or a.adjustments i 0)) 0 h.interval_count;
    }

-- a table as its header and its arrays
unfoldable pub header : Table → Header
header t =
    record {
      buckets = t.buckets;
      capacity = t.capacity;
      block_count = length t.tops;
      interval_count = length t.intervals;
    }

-- new entries over the first ones of a lent array; those past them are kept
unfoldable pub over : List ℕ → List ℕ → List ℕ
over new old = new ++ drop (length new) old

-- the lent arrays with the table written into them
unfoldable pub written : Table → Arrays → Arrays
written t old =
    arrays
    (over t.tops old.tops)
    (over (map (λ i. i.end) t.intervals) old.ends)
    (over (map (λ i. i.block) t.intervals) old.blocks)
    (over (map (λ i. i.adjustment) t.intervals) old.adjustments)
