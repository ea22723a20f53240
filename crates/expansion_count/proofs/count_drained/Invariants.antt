use Rattle.std.proofs.Common.{ℕ, List, ◌≤◌, ◌*◌}
use Rattle.model.specs.Table.{arrays, sizes}
use Rattle.expansion_count.specs.Given.{Drains}
use Rattle.expansion_count.proofs.Parts.{Making}
use Rattle.expansion_count.proofs.count_drained.Given as goal

-- the intervals counted and those that the walk still makes are all
abbrev pub invariant-loop-i : goal.invariant-loop-i
invariant-loop-i l =
    (l.intervals ≤ 2 * l.i)
    × ((tops : List ℕ) (bins : ℕ) (d : Drains l.fn.h l.fn.ends l.fn.blocks l.fn.adjustments l.fn.buckets l.fn.dues tops bins)
    → Making l.fn.h (arrays tops l.fn.ends l.fn.blocks l.fn.adjustments) (sizes l.fn.buckets bins) d.formed l.intervals l.i l.start l.moved)
