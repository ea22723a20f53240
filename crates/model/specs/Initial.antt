-- Document 01, 'A fresh map and a growth': the fresh map. Assumes nothing.
use Rattle.std.specs.Prelude.{ℕ, [], ◌∷◌}
use Rattle.model.specs.Table.{Shape, Table, interval}

-- one block with top n, one interval ending at B, block 0, adjustment 0; p is the capacity
unfoldable pub initial : Shape → ℕ → Table
initial s p =
    record { buckets = s.buckets; capacity = p; tops = s.bins ∷ []; intervals = interval s.buckets 0 0 ∷ [] }
