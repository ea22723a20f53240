use Rattle.std.proofs.Common.{◌≡◌, not, ◌&&◌, eqb, ltb, sym, ap, ap₂, ◌∙◌, arith}
use Rattle.model.specs.Basics.{◌and◌, all, before}
use Rattle.model.specs.Refusal.{rises, ends_wrong}
use Rattle.model.proofs.Rules.{or_first, or_last, before_some}
use Rattle.model.proofs.Flags.{rises_more}
use Rattle.file_rules.proofs.File.ends_wrong.Goals as goal

pub loop-i-init : goal.loop-i-init
unfolding rises all before ◌and◌
loop-i-init c = ap (ltb 0) c.end_at-rise.ensures

pub loop-i-preserved : goal.loop-i-preserved
loop-i-preserved c =
    ap (λ t. c.loop-i.rise && t) (ap₂ ltb c.end_at.ensures c.end_at-in-loop-i.ensures)
    ∙ rises_more _ _ _ (omega arith) c.loop-i.invariant

pub returns-then-not-rise : goal.returns-then-not-rise
unfolding ends_wrong
returns-then-not-rise c =
    let all_ends : c.loop-i.i ≡ c.args.self.header.interval_count = omega arith in
    sym (or_first _ _ (ap not (sym (rw all_ends at c.loop-i.invariant) ∙ c.if-not-rise.true)))

pub returns : goal.returns
unfolding ends_wrong
returns c =
    let all_ends : c.loop-i.i ≡ c.args.self.header.interval_count = omega arith in
    sym
    (or_last _ _ (ap not (sym (rw all_ends at c.loop-i.invariant) ∙ c.if-not-rise.false))
    ∙ ap (λ x. not (eqb x c.args.self.header.buckets)) (before_some _ _ (omega arith) ∙ sym c.end_at-2.ensures))
