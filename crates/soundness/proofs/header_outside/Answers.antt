use mathlib.Core.Path.{sym, ◌∙◌}
use Rattle.model.specs.Refusal.{header_outside}
use Rattle.model.proofs.Refusals.{or_both}
use Rattle.model.proofs.Rules.{or_first, or_last}
use Rattle.soundness.proofs.header_outside.Goals as goal

pub returns-then-is_outside : goal.returns-then-is_outside
unfolding header_outside
returns-then-is_outside c = sym (or_first _ _ (or_first _ _ (sym c.is_outside.ensures ∙ c.if-is_outside.true)))

pub returns-then-is_outside-2 : goal.returns-then-is_outside-2
unfolding header_outside
returns-then-is_outside-2 c =
    sym
    (or_first _ _
    (or_last _ _ (sym c.is_outside.ensures ∙ c.if-is_outside.false)
    ∙ sym c.is_outside-2.ensures
    ∙ c.if-is_outside-2.true))

pub returns : goal.returns
unfolding header_outside
returns c =
    c.is_outside-3.ensures
    ∙ sym
    (or_last _ _
    (or_both _ _
    (sym c.is_outside.ensures ∙ c.if-is_outside.false)
    (sym c.is_outside-2.ensures ∙ c.if-is_outside-2.false)))
