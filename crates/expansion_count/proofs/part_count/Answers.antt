use mathlib.Core.Path.{ap}
use native.Mathlib.Omega.{arith}
use lib.ListN.{length}
use Rattle.expansion_count.proofs.Parts.{made_stay, made_fresh, made_move, made_split}
use Rattle.expansion_count.proofs.part_count.Goals as goal

pub returns-then-left-eq0 : goal.returns-then-left-eq0
returns-then-left-eq0 c =
    (omega arith, λ i g l. omega (arith, ap length (made_stay c.args.plan i g c.args.left c.in-Stay.is l c.if-left-eq0.true)))

pub returns-else-left-eq0 : goal.returns-else-left-eq0
returns-else-left-eq0 c =
    (omega arith, λ i g l. omega (arith, ap length (made_fresh c.args.plan i g c.args.left c.in-Stay.is l c.if-left-eq0.false)))

pub returns-in-Move : goal.returns-in-Move
returns-in-Move c =
    (omega arith, λ i g l. omega (arith, ap length (made_move c.args.plan i g c.args.left _ c.in-Move.is)))

pub returns-in-Split : goal.returns-in-Split
returns-in-Split c =
    (omega arith, λ i g l. omega (arith, ap length (made_split c.args.plan i g c.args.left _ _ c.in-Split.is)))
