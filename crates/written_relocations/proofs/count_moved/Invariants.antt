use Rattle.model.specs.Table.{Shape}
use Rattle.table.specs.Formed.{arrays_of}
use Rattle.written_relocations.specs.Walk.{Drains}
use Rattle.written_relocations.proofs.Walk.{Counting}
use Rattle.written_relocations.proofs.count_moved.Given as goal

-- the written buckets before interval i that move are counted
abbrev pub invariant-loop-i : goal.invariant-loop-i
invariant-loop-i l =
    (s : Shape) → Drains l.table.header (arrays_of l.table) s l.dues l.bits
    → Counting l.table.header (arrays_of l.table) s l.bits l.i l.start l.n
