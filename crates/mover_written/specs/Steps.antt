-- What a call is told, and the words of a row, as the code has them. Assumes nothing.
use Rattle.std.specs.Prelude.{ℕ, ◌*◌, ◌<◌, List, length, Option, Some, None}
use Rattle.std.specs.Borrow.{Bor}
use Rattle.row_places.specs.declared.RowPlaces.{RowPlaces}
use Rattle.mover_written.specs.Carry.{Told, every, bits, word_at}

-- nothing where every bucket is written, or the bits
abbrev pub told_of : Option (Bor (List ℕ)) → Told
told_of None = every
told_of (Some ws) = bits ws.now

-- there is a bit of bucket x, if there are bits
abbrev pub Bit : Told → ℕ → Type 0
Bit every x = Unit {0}
Bit (bits ws) x = x < 64 * length ws

-- the words of a row's old place and of its new one, where the capacity is p
abbrev pub from_of : ℕ → RowPlaces → ℕ
from_of p row = word_at p row.old.bin row.old.position

abbrev pub to_of : ℕ → RowPlaces → ℕ
to_of p row = word_at p row.new.bin row.new.position
