use mathlib.Core.Path.{sym, ◌∙◌, ap}
use mathlib.Core.List.{[], ◌∷◌}
use native.Mathlib.Omega.{arith}
use lib.ListN.{length, length-append}
use Rattle.model.specs.Table.{table}
use Rattle.model.specs.Lent.{lent}
use Rattle.model.proofs.Growths.{tops_more, tops_same}
use Rattle.model.proofs.Wells.{tops_length}
use Rattle.expansion_plan.proofs.blocks_after.Goals as goal

pub returns-then-old-bins : goal.returns-then-old-bins
unfolding table
returns-then-old-bins c ends blocks adjustments s e =
    let t = lent c.args.h c.args.tops.now ends blocks adjustments in
    omega (
      arith,
      ap length (tops_more t s (omega (arith, c.bin_count-old.ensures ends blocks adjustments, c.if-old-bins.true))),
      length-append t.tops (s.bins ∷ []),
      tops_length _ _ c.requires.formed,
    )

pub returns : goal.returns
unfolding table
returns c ends blocks adjustments s e =
    sym
    (ap length (tops_same _ s (omega (arith, c.bin_count-old.ensures ends blocks adjustments, c.if-old-bins.false)))
    ∙ tops_length _ _ c.requires.formed)
