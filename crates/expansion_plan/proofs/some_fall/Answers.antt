use native.Mathlib.Omega.{arith}
use Rattle.model.specs.Balance.{due_below}
use Rattle.model.specs.Table.{bins, table, sizes}
use Rattle.model.specs.Refusal.{shrinks, unchanged, blocks_full}
use Rattle.model.specs.Calls.{growth_tests}
use Rattle.model.proofs.Growths.{accepted}
use Rattle.model.proofs.Shares.{due_within}
use Rattle.expansion_plan.proofs.Falls.{falls_lent}
use Rattle.expansion_plan.proofs.some_fall.Goals as goal

pub nonzero_div-buckets : goal.nonzero_div-buckets
nonzero_div-buckets c = (accepted _ _ c.requires.asked).some_bins

pub nonzero_rem-buckets : goal.nonzero_rem-buckets
nonzero_rem-buckets c = (accepted _ _ c.requires.asked).some_bins

pub due_below-requires : goal.due_below-requires
unfolding due_below
due_below-requires c =
    let rest = c.requires.whole in
    let n = c.bin_count-old.ensures rest.ends rest.blocks rest.adjustments in
    let more = (accepted _ _ c.requires.asked).more_bins in
    omega (
      arith,
      due_within (sizes c.args.buckets c.args.bins) c.bin_count-old.result (omega (arith, n, more)),
      c.ranges.buckets.fits,
    )

pub returns : goal.returns
unfolding table growth_tests shrinks unchanged blocks_full bins
returns c ends blocks adjustments formed =
    falls_lent c.args.h _ _ formed c.requires.asked _ _ (c.bin_count-old.ensures ends blocks adjustments) c.due_below.ensures
