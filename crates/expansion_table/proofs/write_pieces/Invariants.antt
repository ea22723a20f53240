use Rattle.std.proofs.Common.{◌≤◌, ◌-◌}
use Rattle.model.specs.Expansion.{pieces}
use Rattle.expansion_count.specs.Growths.{old_table, new_sizes}
use Rattle.expansion_drain.proofs.Stores.{Writing}
use Rattle.expansion_table.proofs.write_pieces.Given as goal

-- the pieces written and those of the blocks from j on are the whole
abbrev pub invariant-loop-j : goal.invariant-loop-j
invariant-loop-j l =
    let t = old_table l.fn.growth in
    let s = new_sizes l.fn.growth in
    let n = l.fn.growth.block_count in
    (l.fn.start ≤ l.at)
    × Writing l.fn.place l.o (pieces t s l.fn.start 0 n) (pieces t s l.at l.j (n - l.j))
    l.fn.new_ends l.fn.new_blocks l.fn.new_adjustments l.new_ends l.new_blocks l.new_adjustments
