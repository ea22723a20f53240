-- Document 01, 'Move list, placing, finding, keeping': the saved form. A file is a list of bytes. Assumes nothing.
use Rattle.std.specs.Prelude.{ℕ, ◌+◌, ◌*◌, ◌/◌, ◌%◌, Bool, not, List, [], ◌∷◌, ◌++◌, map, length, get_or, ltb, eqb}
use Rattle.model.specs.Basics.{◌or◌, from, joined}
use Rattle.model.specs.Table.{Table, Arrays, arrays}
use Rattle.model.specs.Refusal.{header_outside, adjustment_of}
use Rattle.model.specs.declared.table.Header.{Header}

-- a number as 4 bytes, low byte first
unfoldable pub bytes_of : ℕ → List ℕ
bytes_of x = x % 256 ∷ x / 256 % 256 ∷ x / 65_536 % 256 ∷ x / 16_777_216 % 256 ∷ []

-- the numbers of a saved map: B, G, k, the G tops, then two parallel arrays, k ends and k blocks
unfoldable pub saved_numbers : Table → List ℕ
saved_numbers t =
    t.buckets
    ∷ length t.tops
    ∷ length t.intervals
    ∷ t.tops ++ map (λ i. i.end) t.intervals ++ map (λ i. i.block) t.intervals

unfoldable pub saved : Table → List ℕ
saved t = joined (map bytes_of (saved_numbers t))

-- the length of a saved map of G blocks and k intervals
unfoldable pub saved_length : ℕ → ℕ → ℕ
saved_length g k = 12 + 4 * g + 8 * k

-- 21: room for a file below its length
abbrev pub buffer_short : Header → List ℕ → Bool
buffer_short h buffer = ltb (length buffer) (saved_length h.block_count h.interval_count)

-- number i of a file
unfoldable pub number : List ℕ → ℕ → ℕ
number f i =
    get_or f (4 * i) 0 + 256 * get_or f (4 * i + 1) 0 + 65_536 * get_or f (4 * i + 2) 0 + 16_777_216 * get_or f (4 * i + 3) 0

-- the header of a file: its first three numbers, and the capacity p, which the file does not have
unfoldable pub loaded_header : List ℕ → ℕ → Header
loaded_header f p =
    record { buckets = number f 0; capacity = p; block_count = number f 1; interval_count = number f 2 }

-- 11: B, G or k outside its limits, or a file of another length
unfoldable pub file_wrong : List ℕ → ℕ → Bool
file_wrong f p =
    header_outside (loaded_header f p)
    or not (eqb (length f) (saved_length (loaded_header f p).block_count (loaded_header f p).interval_count))

-- the arrays in the file, with no adjustments
unfoldable pub read_arrays : List ℕ → ℕ → Arrays
read_arrays f p =
    arrays
    (from (number f) 3 (loaded_header f p).block_count)
    (from (number f) (3 + (loaded_header f p).block_count) (loaded_header f p).interval_count)
    (from (number f) (3 + (loaded_header f p).block_count + (loaded_header f p).interval_count) (loaded_header f p).interval_count)
    []

-- loading works out the adjustments
unfoldable pub loaded_arrays : List ℕ → ℕ → Arrays
loaded_arrays f p =
    arrays
    (read_arrays f p).tops
    (read_arrays f p).ends
    (read_arrays f p).blocks
    (from (adjustment_of (loaded_header f p) (read_arrays f p)) 0 (loaded_header f p).interval_count)
