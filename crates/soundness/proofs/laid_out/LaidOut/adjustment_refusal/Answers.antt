use mathlib.Core.Path.{sym, refl, ◌∙◌}
use mathlib.Core.Bool.{true}
use mathlib.Core.List.{[], ◌∷◌}
use Rattle.model.proofs.Refusals.{first_here, first_skip}
use Rattle.soundness.proofs.laid_out.LaidOut.adjustment_refusal.Goals as goal

pub returns-then-holdings_wrong : goal.returns-then-holdings_wrong
returns-then-holdings_wrong c =
    let said = c.holdings_wrong.ensures _ _ c.summed-held.ensures in
    sym (first_here _ _ (sym said ∙ c.if-holdings_wrong.true))

pub returns : goal.returns
returns c =
    let said = c.holdings_wrong.ensures _ _ c.summed-held.ensures in
    sym (first_skip (15, _) ((16, true) ∷ []) (sym said ∙ c.if-holdings_wrong.false) ∙ first_here (16, true) [] refl)
