use mathlib.Core.Path.{sym}
use native.Mathlib.Omega.{arith}
use Rattle.std.proofs.lemmas.Result.{err_from_is_err_and}
use Rattle.soundness.proofs.Passed.{laid, tops_right, intervals_right}
use Rattle.soundness.proofs.Walk.{walked_none}
use Rattle.soundness.proofs.Answers.{judged_layout, judged_adjustments, judged_holdings, judged_formed}
use Rattle.soundness.proofs.judged_alone.Goals as goal

pub returns-in_err-layout_allowed : goal.returns-in_err-layout_allowed
returns-in_err-layout_allowed c =
    let p = err_from_is_err_and c.from_residual.result c.from_residual.ensures.1 in
    rw (p.1, p.2) (judged_layout _ _ _ _ _ _ c.in_err-layout_allowed.ensures)

pub invariant_of-laid : goal.invariant_of-laid
invariant_of-laid c =
    let w = laid _ _ _ _ (sym c.in_ok-layout_allowed.ensures) in
    record {
      tops_right = tops_right _ _ _ _ c.requires.0 w;
      intervals_right = intervals_right _ _ _ _ c.requires.0 w;
      adjustments_long = c.requires.1;
    }

pub returns-then-walked_from : goal.returns-then-walked_from
returns-then-walked_from c =
    judged_adjustments _ _ _ _ _ (sym c.in_ok-layout_allowed.ensures) _ c.walked_from.ensures.answer c.if-walked_from.true _ c.adjustment_refusal.ensures

pub holdings_wrong-requires : goal.holdings_wrong-requires
holdings_wrong-requires c = tops_right _ _ _ _ c.requires.0 (laid _ _ _ _ (sym c.in_ok-layout_allowed.ensures))

pub returns-then-holdings_wrong : goal.returns-then-holdings_wrong
returns-then-holdings_wrong c =
    let w = c.walked_from.ensures in
    judged_holdings _ _ _ _ _ (sym c.in_ok-layout_allowed.ensures) _ w.answer _
    (c.holdings_wrong.ensures _ _ (w.holds c.if-walked_from.false)) c.if-holdings_wrong.true

pub returns : goal.returns
returns c =
    let w = c.walked_from.ensures in
    judged_formed _ _ _ _ _ (sym c.in_ok-layout_allowed.ensures) _ w.answer _
    (c.holdings_wrong.ensures _ _ (w.holds c.if-walked_from.false)) c.if-walked_from.false c.if-holdings_wrong.false

pub walked_from-requires : goal.walked_from-requires
walked_from-requires c = (omega arith, walked_none _ _)

pub invariant_of-lent : goal.invariant_of-lent
invariant_of-lent c = record { counted = c.requires.0; adjustments_long = c.requires.1 }
