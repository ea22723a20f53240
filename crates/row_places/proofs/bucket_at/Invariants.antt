use Rattle.model.specs.Table.{Shape}
use Rattle.table.specs.Formed.{arrays_of}
use Rattle.row_places.specs.Rows.{Drains}
use Rattle.row_places.proofs.Walk.{Walk}
use Rattle.row_places.proofs.bucket_at.Given as goal

-- `left` of the rows before the one asked for are of intervals from i on
abbrev pub invariant-loop-i : goal.invariant-loop-i
invariant-loop-i l =
    (s : Shape) → Drains l.table.header (arrays_of l.table) s l.dues l.order
    → Walk l.table.header (arrays_of l.table) s l.order l.i l.start l.left
