use mathlib.Core.Path.{sym, ap}
use native.Mathlib.Omega.{arith}
use lib.Dec.{ltb}
use Rattle.model.specs.Limits.{max_intervals}
use Rattle.model.specs.Table.{sizes}
use Rattle.model.specs.Refusal.{intervals_full}
use Rattle.model.proofs.Wells.{formed_well}
use Rattle.model.proofs.Growths.{accepted, block_limits}
use Rattle.expansion_count.proofs.Bounds.{few_fit}
use Rattle.expansion_count.proofs.intervals_full.Goals as goal

pub overflow_add-h : goal.overflow_add-h
overflow_add-h c =
    let g = c.requires.holds in
    omega (
      arith,
      g.formed.interval_limit,
      g.grows.counted,
      (block_limits _ _ (formed_well _ _ g.formed) (accepted _ _ g.grows.asked)).1,
    )

pub returns-then-h-count-le-MAX_INTERVALS : goal.returns-then-h-count-le-MAX_INTERVALS
returns-then-h-count-le-MAX_INTERVALS c tops bins g =
    sym (few_fit _ _ (sizes _ bins) g.formed g.grows.asked (omega (arith, c.if-h-count-le-MAX_INTERVALS.true, g.grows.counted)))

pub returns : goal.returns
unfolding intervals_full
returns c tops bins g = ap (ltb max_intervals) (c.measure-intervals.ensures tops bins g)
