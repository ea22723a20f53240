use mathlib.Core.Path.{refl}
use native.Mathlib.Omega.{arith}
use Rattle.model.specs.Table.{table}
use Rattle.model.proofs.Wells.{formed_well}
use Rattle.model.proofs.Growths.{accepted, block_limits}
use Rattle.expansion_count.specs.Growths.{old_table, new_sizes}
use Rattle.expansion_table.proofs.Tops.{tops_added, tops_kept}
use Rattle.expansion_table.proofs.write_tops.Goals as goal

pub bounds-new_tops-old : goal.bounds-new_tops-old
bounds-new_tops-old c =
    let g = c.args.growth.now in
    let few = block_limits _ _ (formed_well _ _ g.table.formed) (accepted _ _ g.grows.asked) in
    omega (arith, c.if-old-growth.true, g.grows.counted, few, c.requires, c.copy.auto)

pub returns-then-old-growth : goal.returns-then-old-growth
unfolding table
returns-then-old-growth c =
    let g = c.args.growth.now in
    let few = block_limits _ _ (formed_well _ _ g.table.formed) (accepted _ _ g.grows.asked) in
    tops_added (old_table g) (new_sizes g) _ _ _ _ _ refl g.table.formed.tops_long g.grows.counted c.copy.ensures _
    (omega (arith, c.if-old-growth.true, g.grows.counted, few, c.requires)) refl c.if-old-growth.true

pub returns-else-old-growth : goal.returns-else-old-growth
unfolding table
returns-else-old-growth c =
    let g = c.args.growth.now in
    tops_kept (old_table g) (new_sizes g) _ _ _ _ _ refl g.table.formed.tops_long g.grows.counted c.copy.ensures
    c.if-old-growth.false
