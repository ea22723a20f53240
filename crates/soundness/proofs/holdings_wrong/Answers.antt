use Rattle.std.proofs.Common.{sym, ◌∙◌, arith, below_none, below_more}
use Rattle.model.specs.Balance.{due_below}
use Rattle.model.proofs.Rules.{before_next}
use Rattle.model.proofs.Holdings.{due_none, held_same, holdings_right, holdings_fail}
use Rattle.soundness.proofs.Turns.{bins_some, due_turn}
use Rattle.soundness.proofs.holdings_wrong.Goals as goal

pub nonzero_div-quotient : goal.nonzero_div-quotient
nonzero_div-quotient c = bins_some _ _ c.requires

pub nonzero_rem-remainder : goal.nonzero_rem-remainder
nonzero_rem-remainder c = bins_some _ _ c.requires

pub loop-j-init : goal.loop-j-init
loop-j-init c = (sym (due_none _ _), below_none _)

pub due_below-through-requires : goal.due_below-through-requires
unfolding due_below
due_below-through-requires c =
    let t = due_turn _ _ c.requires c.loop-j.j (omega arith) in
    omega arith

pub overflow_sub-through : goal.overflow_sub-through
unfolding due_below
overflow_sub-through c =
    let t = due_turn _ _ c.requires c.loop-j.j (omega arith) in
    omega (arith, c.due_below-through.ensures)

pub returns-then-sums-j : goal.returns-then-sums-j
unfolding due_below
returns-then-sums-j c ends blocks sums =
    let tops = c.requires in
    let j = c.loop-j.j in
    let t = due_turn _ _ tops j (omega arith) in
    sym
    (holdings_fail _ _ tops.some tops.long j (omega arith)
    (λ e.
    c.if-sums-j.true
    (sums.cell j (omega arith) ∙ held_same _ _ _ _ _ _ _ j _ ∙ e ∙ omega (arith, c.due_below-through.ensures))))

pub loop-j-preserved : goal.loop-j-preserved
unfolding due_below
loop-j-preserved c =
    let t = due_turn _ _ c.requires c.loop-j.j (omega arith) in (
      rw before_next (omega (arith, c.due_below-through.ensures)),
      below_more _ _ c.loop-j.invariant.1 (omega (arith, c.due_below-through.ensures, c.if-sums-j.false)),
    )

pub returns : goal.returns
returns c ends blocks sums =
    let tops = c.requires in
    sym
    (holdings_right _ _ tops.some tops.long
    (λ j l. held_same _ _ _ _ _ _ _ j _ ∙ sym (sums.cell j (omega arith)) ∙ c.loop-j.invariant.1 j (omega arith)))
