use Rattle.std.proofs.Common.{◌≡◌, ◌≤◌, ◌+◌, ◌-◌, length}
use Rattle.model.specs.Table.{Shape, Table}
use Rattle.model.specs.Expansion.{pieces}
use Rattle.expansion_count.specs.Given.{Shares}
use Rattle.expansion_count.proofs.count_pieces.Given as goal

-- the blocks counted and the pieces of the blocks from j on are all
abbrev pub invariant-loop-j : goal.invariant-loop-j
invariant-loop-j l =
    let n = l.fn.count in
    (l.gaining ≤ l.j)
    × ((t : Table) (s : Shape) → Shares t s l.fn.last l.fn.olds l.fn.dues
    → l.gaining + length (pieces t s 0 l.j (n - l.j)) ≡ length (pieces t s 0 0 n))
