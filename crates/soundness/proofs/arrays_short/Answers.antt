use Rattle.std.proofs.Common.{sym, ◌∙◌, le-ltb, lt-ltb}
use Rattle.model.specs.Refusal.{arrays_short}
use Rattle.model.proofs.Refusals.{or_both}
use Rattle.model.proofs.Rules.{or_first, or_last}
use Rattle.soundness.proofs.arrays_short.Goals as goal

pub returns-then-tops-h : goal.returns-then-tops-h
unfolding arrays_short
returns-then-tops-h c = sym (or_first _ _ (or_first _ _ (or_first _ _ (lt-ltb _ _ c.if-tops-h.true))))

pub returns-then-ends-intervals : goal.returns-then-ends-intervals
unfolding arrays_short
returns-then-ends-intervals c =
    sym (or_first _ _ (or_first _ _ (or_last _ _ (le-ltb _ _ c.if-tops-h.false) ∙ lt-ltb _ _ c.if-ends-intervals.true)))

pub returns-then-blocks-intervals : goal.returns-then-blocks-intervals
unfolding arrays_short
returns-then-blocks-intervals c =
    sym
    (or_first _ _
    (or_last _ _
    (or_both _ _ (le-ltb _ _ c.if-tops-h.false) (le-ltb _ _ c.if-ends-intervals.false))
    ∙ lt-ltb _ _ c.if-blocks-intervals.true))

pub returns : goal.returns
unfolding arrays_short
returns c =
    sym
    (or_last _ _
    (or_both _ _
    (or_both _ _ (le-ltb _ _ c.if-tops-h.false) (le-ltb _ _ c.if-ends-intervals.false))
    (le-ltb _ _ c.if-blocks-intervals.false)))
