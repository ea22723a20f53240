use mathlib.Core.Path.{sym}
use native.Mathlib.Omega.{arith}
use Rattle.model.specs.Table.{interval}
use Rattle.model.proofs.Drained.{plan_stay, plan_move, plan_split}
use Rattle.expansion_plan.proofs.plan_interval.Goals as goal

pub returns-then-end-adjustment : goal.returns-then-end-adjustment
returns-then-end-adjustment c b = sym (plan_stay _ _ (interval _ b _) _ (omega (arith, c.if-end-adjustment.true)))

pub returns-then-due-start : goal.returns-then-due-start
returns-then-due-start c b = sym (plan_move _ _ (interval _ b _) _ c.if-end-adjustment.false c.if-due-start.true)

pub returns : goal.returns
returns c b = sym (plan_split _ _ (interval _ b _) _ c.if-end-adjustment.false c.if-due-start.false)
