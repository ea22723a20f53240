-- Document 02, S-4: the rack sheet. Text is a list of bytes: 32 is a blank, 10 a line feed. Assumes nothing.
use Rattle.std.specs.Prelude.{ℕ, ◌-◌, ◌*◌, Bool, List, [], ◌∷◌, ◌++◌, map, length, replicate, ltb}
use Rattle.model.specs.Basics.{from, joined, before}
use Rattle.model.specs.Decimal.{decimal}
use Rattle.model.specs.Table.{Table, first_bin, block_bins}
use Rattle.model.specs.Search.{interval_at}
use Rattle.model.specs.declared.table.Header.{Header}

abbrev pub blanks : ℕ → List ℕ
blanks m = replicate m 32

-- a field: a number in decimal, right-aligned with blanks in 10 columns
unfoldable pub field : ℕ → List ℕ
field n = blanks (10 - length (decimal n)) ++ decimal n

-- a line: the fields of its numbers, and a line feed
unfoldable pub sheet_line : List ℕ → List ℕ
sheet_line ns = joined (map field ns) ++ (10 ∷ [])

-- the numbers of interval (run) i, from 0: first bucket, last bucket, block (group), first bin (drawer), bins in the block
unfoldable pub interval_numbers : Table → ℕ → List ℕ
interval_numbers t i =
    before (map (λ v. v.end) t.intervals) i
    ∷ ((interval_at t i).end - 1)
    ∷ (interval_at t i).block
    ∷ first_bin t.tops (interval_at t i).block
    ∷ block_bins t.tops (interval_at t i).block
    ∷ []

-- the sheet: one line an interval, from the left
unfoldable pub sheet : Table → List ℕ
sheet t = joined (from (λ i. sheet_line (interval_numbers t i)) 0 (length t.intervals))

-- its length for k intervals: 51 bytes each
unfoldable pub sheet_length : ℕ → ℕ
sheet_length k = 51 * k

-- 34: a buffer shorter than that
abbrev pub sheet_short : Header → List ℕ → Bool
sheet_short h buffer = ltb (length buffer) (sheet_length h.interval_count)
