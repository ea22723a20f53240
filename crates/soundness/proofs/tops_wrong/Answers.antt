use Rattle.std.proofs.Common.{not, ltb, sym, ap, ◌∙◌, arith, le-ltb, lt-ltb}
use Rattle.model.specs.Refusal.{tops_wrong}
use Rattle.model.proofs.Refusals.{or_both}
use Rattle.model.proofs.Rules.{or_first, or_last, before_some}
use Rattle.soundness.proofs.tops_wrong.Goals as goal

pub returns-then-not-rising : goal.returns-then-not-rising
unfolding tops_wrong
returns-then-not-rising c = sym (or_first _ _ (or_first _ _ (ap not (sym c.rising.ensures ∙ c.if-not-rising.true))))

pub returns-then-bins-gt-MAX_BINS : goal.returns-then-bins-gt-MAX_BINS
unfolding tops_wrong
returns-then-bins-gt-MAX_BINS c =
    sym
    (or_first _ _
    (or_last _ _ (ap not (sym c.rising.ensures ∙ c.if-not-rising.false))
    ∙ ap (ltb 65_535) (before_some _ _ (omega arith))
    ∙ lt-ltb _ _ c.if-bins-gt-MAX_BINS.true))

pub returns : goal.returns
unfolding tops_wrong
returns c =
    sym
    (or_last _ _
    (or_both _ _
    (ap not (sym c.rising.ensures ∙ c.if-not-rising.false))
    (ap (ltb 65_535) (before_some _ _ (omega arith)) ∙ le-ltb _ _ c.if-bins-gt-MAX_BINS.false))
    ∙ ap (ltb _) (before_some _ _ (omega arith)))
