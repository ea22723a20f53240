use Rattle.expansion_count.proofs.Pieces.{growth_lent}
use Rattle.expansion_count.proofs.growth.Growth.intervals_full.Goals as goal

pub intervals_full-requires : goal.intervals_full-requires
intervals_full-requires c =
    let g = c.args.self.now in
    record { one = g.table.tops.now; other = g.bins; holds = growth_lent g }

pub returns : goal.returns
returns c =
    let g = c.args.self.now in
    c.intervals_full.ensures g.table.tops.now g.bins (growth_lent g)
