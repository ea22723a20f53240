use mathlib.Core.Path.{sym, ◌∙◌}
use native.Mathlib.Omega.{arith}
use Rattle.model.specs.Table.{sizes}
use Rattle.model.specs.Lent.{lent}
use Rattle.model.specs.Expansion.{length_to}
use Rattle.model.proofs.Steps.{drained_count, filled_count}
use Rattle.expansion_count.proofs.Pieces.{grows_drains, grows_fills, fills_rise, fills_shares, blocks_few}
use Rattle.expansion_count.proofs.measure.Goals as goal

pub count_drained-requires : goal.count_drained-requires
count_drained-requires c =
    record { one = c.requires.one; other = c.requires.other; holds = grows_drains c.requires.holds }

pub returns-then-falls : goal.returns-then-falls
returns-then-falls c tops bins g =
    c.count_drained.ensures tops bins (grows_drains g)
    ∙ sym (drained_count _ _ _ g.formed g.grows.asked (sym g.grows.falling ∙ c.if-falls.true))

pub count_pieces-requires : goal.count_pieces-requires
count_pieces-requires c =
    let g = c.requires.holds in
    let fills = grows_fills g c.if-falls.false in
    (blocks_few _ _ _ _ _ fills _ g.grows.counted, fills_rise _ _ _ _ _ fills)

pub returns : goal.returns
returns c tops bins g =
    let fills = grows_fills g c.if-falls.false in
    let t = lent c.args.h tops c.args.ends.now c.args.blocks.now c.args.adjustments.now in
    let s = sizes c.args.buckets bins in
    let pieces = c.count_pieces.ensures.counted t s (length_to t s) (fills_shares _ _ _ _ _ fills) in
    omega (arith, rw g.grows.counted at pieces, filled_count _ _ _ g.formed g.grows.asked fills.none)
