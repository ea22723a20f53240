use mathlib.Core.Path.{sym}
use Rattle.model.proofs.Steps.{last_lent}
use Rattle.table.specs.Formed.{arrays_of}
use Rattle.expansion_count.proofs.growth.Growth.last_block.Goals as goal

pub returns : goal.returns
returns c =
    let t = c.args.self.now.table in
    sym (last_lent t.header (arrays_of t) t.formed.some_intervals)
