use native.Mathlib.Omega.{arith}
use Rattle.model.proofs.Wells.{adjustment_most}
use Rattle.expansion_plan.proofs.plan_at.Goals as goal

pub plan_interval-requires : goal.plan_interval-requires
plan_interval-requires c =
    let i = c.args.i in
    let formed = c.args.table.formed in
    omega (arith, adjustment_most _ _ formed i c.requires.0, formed.ends_rise i c.requires.0)
