use mathlib.Core.Path.{sym}
use Rattle.std.proofs.lemmas.Result.{err_from_is_err_and}
use Rattle.soundness.proofs.Passed.{laid, tops_right, intervals_right}
use Rattle.soundness.proofs.Answers.{judged_layout, judged_adjustments, judged_holdings, judged_formed}
use Rattle.soundness.proofs.lent.Lent.judged.Goals as goal

pub returns-in_err-layout_allowed : goal.returns-in_err-layout_allowed
returns-in_err-layout_allowed c =
    let p = err_from_is_err_and c.from_residual.result c.from_residual.ensures.1 in
    rw (p.1, p.2) (judged_layout _ _ _ _ _ _ c.in_err-layout_allowed.ensures)

pub invariant_of-laid : goal.invariant_of-laid
invariant_of-laid c =
    let w = laid _ _ _ _ (sym c.in_ok-layout_allowed.ensures) in
    record {
      tops_right = tops_right _ _ _ _ c.args.self.counted w;
      intervals_right = intervals_right _ _ _ _ c.args.self.counted w;
      adjustments_long = c.args.self.adjustments_long;
    }

pub returns-then-walked : goal.returns-then-walked
returns-then-walked c =
    judged_adjustments _ _ _ _ _ (sym c.in_ok-layout_allowed.ensures) _ c.walked.ensures.answer c.if-walked.true _ c.adjustment_refusal.ensures

pub holdings_wrong-requires : goal.holdings_wrong-requires
holdings_wrong-requires c = tops_right _ _ _ _ c.args.self.counted (laid _ _ _ _ (sym c.in_ok-layout_allowed.ensures))

pub returns-then-holdings_wrong : goal.returns-then-holdings_wrong
returns-then-holdings_wrong c =
    let w = c.walked.ensures in
    judged_holdings _ _ _ _ _ (sym c.in_ok-layout_allowed.ensures) _ w.answer _
    (c.holdings_wrong.ensures _ _ (w.holds c.if-walked.false)) c.if-holdings_wrong.true

pub returns : goal.returns
returns c =
    let w = c.walked.ensures in
    judged_formed _ _ _ _ _ (sym c.in_ok-layout_allowed.ensures) _ w.answer _
    (c.holdings_wrong.ensures _ _ (w.holds c.if-walked.false)) c.if-walked.false c.if-holdings_wrong.false
