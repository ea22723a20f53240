use mathlib.Core.Path.{sym, ◌∙◌, ap}
use native.Mathlib.Omega.{arith}
use Rattle.model.specs.Table.{shape, table, sizes}
use Rattle.model.specs.Due.{due_of_block}
use Rattle.model.specs.Lent.{lent}
use Rattle.model.proofs.Wells.{bins_last, formed_well}
use Rattle.model.proofs.Shares.{has_dues}
use Rattle.expansion_plan.proofs.Turns.{formed_tops}
use Rattle.expansion_plan.proofs.Written.{dues_whole}
use Rattle.expansion_plan.proofs.dues_before.Goals as goal

pub block_dues-requires-clause-tops_within : goal.block_dues-requires-clause-tops_within
block_dues-requires-clause-tops_within c =
    let tops = c.requires.tops_formed in
    let n = c.bin_count-bins.ensures tops.ends tops.blocks tops.adjustments in
    formed_tops _ _ tops.formed _ (omega (arith, n, bins_last _ _ tops.formed))

pub returns : goal.returns
unfolding shape table
returns c ends blocks adjustments formed j l =
    let t = lent c.args.h c.args.tops.now ends blocks adjustments in
    let n = c.bin_count-bins.ensures ends blocks adjustments in
    dues_whole _ _ _ _ _ c.block_dues.ensures formed.tops_long c.requires.olds_value j
    ∙ ap (λ n. due_of_block (sizes c.args.h.buckets n) t.tops j) n
    ∙ sym (has_dues t (formed_well _ _ formed) j)
