use Rattle.std.proofs.Common.{ℕ, List}
use Rattle.model.specs.Basics.{before}
use Rattle.model.specs.Table.{arrays, sizes}
use Rattle.model.specs.Lent.{lent}
use Rattle.model.specs.Expansion.{drained}
use Rattle.model.proofs.Steps.{Walk}
use Rattle.expansion_count.specs.Given.{Drains}
use Rattle.expansion_count.proofs.Parts.{to_make}
use Rattle.expansion_drain.proofs.Stores.{Writing}
use Rattle.expansion_drain.proofs.write_drained.Given as goal

-- what is written and what the walk still makes are the whole
abbrev pub invariant-loop-i : goal.invariant-loop-i
invariant-loop-i l =
    let f = l.fn in
    let start = before f.ends l.i in
    (tops : List ℕ) (bins : ℕ) → Drains f.h f.ends f.blocks f.adjustments f.buckets f.dues tops bins
    → Walk f.h (arrays tops f.ends f.blocks f.adjustments) (sizes f.buckets bins) l.i start l.moved
    × Writing 0 l.o
    (drained (lent f.h tops f.ends f.blocks f.adjustments) (sizes f.buckets bins))
    (to_make f.h (arrays tops f.ends f.blocks f.adjustments) (sizes f.buckets bins) l.i start l.moved)
    f.new_ends f.new_blocks f.new_adjustments l.new_ends l.new_blocks l.new_adjustments
