use Rattle.std.proofs.Common.{not, eqb, sym, ap, ◌∙◌, arith}
use Rattle.model.specs.Refusal.{ends_wrong}
use Rattle.model.proofs.Rules.{or_first, or_last, before_some}
use Rattle.soundness.proofs.ends_wrong.Goals as goal

pub returns-then-not-rising : goal.returns-then-not-rising
unfolding ends_wrong
returns-then-not-rising c = sym (or_first _ _ (ap not (sym c.rising.ensures ∙ c.if-not-rising.true)))

pub returns : goal.returns
unfolding ends_wrong
returns c =
    sym
    (or_last _ _ (ap not (sym c.rising.ensures ∙ c.if-not-rising.false))
    ∙ ap (λ x. not (eqb x c.args.h.buckets)) (before_some _ _ (omega arith)))
