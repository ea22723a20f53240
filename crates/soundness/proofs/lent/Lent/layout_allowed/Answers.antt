use mathlib.Core.Path.{sym, ◌∙◌}
use Rattle.model.proofs.Refusals.{first_none, first_here, first_skip}
use Rattle.soundness.specs.Passed.{layout_tests}
use Rattle.soundness.proofs.lent.Lent.layout_allowed.Goals as goal

pub returns-then-tops_wrong : goal.returns-then-tops_wrong
unfolding layout_tests
returns-then-tops_wrong c = sym (first_here _ _ (sym c.tops_wrong.ensures ∙ c.if-tops_wrong.true))

pub returns-then-ends_wrong : goal.returns-then-ends_wrong
unfolding layout_tests
returns-then-ends_wrong c =
    sym
    (first_skip _ _ (sym c.tops_wrong.ensures ∙ c.if-tops_wrong.false)
    ∙ first_here _ _ (sym c.ends_wrong.ensures ∙ c.if-ends_wrong.true))

pub returns-then-blocks_wrong : goal.returns-then-blocks_wrong
unfolding layout_tests
returns-then-blocks_wrong c =
    sym
    (first_skip _ _ (sym c.tops_wrong.ensures ∙ c.if-tops_wrong.false)
    ∙ first_skip _ _ (sym c.ends_wrong.ensures ∙ c.if-ends_wrong.false)
    ∙ first_here _ _ (sym c.blocks_wrong.ensures ∙ c.if-blocks_wrong.true))

pub returns : goal.returns
unfolding layout_tests
returns c =
    sym
    (first_skip _ _ (sym c.tops_wrong.ensures ∙ c.if-tops_wrong.false)
    ∙ first_skip _ _ (sym c.ends_wrong.ensures ∙ c.if-ends_wrong.false)
    ∙ first_skip _ _ (sym c.blocks_wrong.ensures ∙ c.if-blocks_wrong.false)
    ∙ first_none)
