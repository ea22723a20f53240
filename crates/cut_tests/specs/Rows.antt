-- What is due at a place, and the rows of a move list. Assumes nothing.
use Rattle.std.specs.Prelude.{◌≡◌, ℕ, Bool, true, ◌&&◌, ◌==◌, nat_lt, ◌<◌, not, if◌then◌else◌, List, length, map, slice_index, slice_index_or, slice_set, count_by}
use Rattle.std.specs.List.{range_with_len}
use Rattle.model.specs.declared.table.Header.{Header}
use Rattle.cut_tests.specs.Tables.{bucket_word}
use Rattle.cut_tests.specs.declared.growth.Table.{Table}
use Rattle.cut_tests.specs.Words.{own_word, vacant_word, place_word}
use Rattle.cut_tests.specs.declared.job.Due.{Due}
use Rattle.cut_tests.specs.declared.job.Row.{Row}

-- at a place of a bucket: its word, if that is there
abbrev pub due_of : ℕ → ℕ → Bool → Due
due_of x at there = record { at = at; word = if there then own_word x else vacant_word at }

-- whether what is due is there
abbrev pub meets : List ℕ → Due → Bool
meets ws due = nat_lt due.at (length ws) && (slice_index ws due.at == due.word)

-- how many dues are not met
abbrev pub unmet : List ℕ → List Due → ℕ
unmet ws dues = count_by (λ due. not (meets ws due)) dues

-- how many rows have not their due at the new place
abbrev pub unmet_rows : List ℕ → List Row → ℕ
unmet_rows ws rows = count_by (λ row. not (meets ws row.due)) rows

-- the row that five numbers are, of a bucket that is written or not
abbrev pub row_of : ℕ → Bool → List ℕ → Row
row_of capacity written numbers =
    let x = slice_index numbers 0 in
    record {
      bucket = x;
      written = written;
      from = place_word capacity (slice_index numbers 1) (slice_index numbers 2);
      due = due_of x (place_word capacity (slice_index numbers 3) (slice_index numbers 4)) written;
    }

-- the words after a row is done
abbrev pub copied : Row → List ℕ → List ℕ
copied row ws =
    if row.written && nat_lt row.from (length ws) then slice_set ws row.due.at (slice_index ws row.from) else ws

-- a row is what five numbers are
abbrev pub IsRow : ℕ → List ℕ → Row → Type 0
IsRow capacity five row = row ≡ row_of capacity row.written five

-- each row is what the five numbers at its index are; what would stand past the ends is never read
abbrev pub RowsOf : ℕ → List (List ℕ) → List Row → Type 0
RowsOf capacity numbers rows =
    (k : ℕ) (five : List ℕ) (row : Row) → k < length numbers → k < length rows → IsRow capacity (slice_index_or numbers k five) (slice_index_or rows k row)

-- the words of the first n buckets of a table, at their places
abbrev pub places_of : Table → Header → ℕ → List Due
places_of t h n = map (λ x. due_of x (bucket_word t h x) true) (range_with_len 0 n)
