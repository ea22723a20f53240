use Prim.Native.Nat.{ℕ}
use Rattle.model.specs.Table.{sizes}
use Rattle.table.specs.Formed.{table_of, arrays_of}
use Rattle.relocations.specs.Parts.{Moves}
use Rattle.relocations.proofs.Walking.{Walking}
use Rattle.relocations.proofs.write_moved.Given as goal

-- the rows of the buckets before interval i are on the page
abbrev pub invariant-loop-i : goal.invariant-loop-i
invariant-loop-i l =
    (b : ℕ) → Moves (table_of l.table) (sizes b l.bins) l.dues
    → Walking l.table.header (arrays_of l.table) (sizes b l.bins) l.first l.fn.rows l.rows l.i l.start l.moved
