use mathlib.Core.Logic.{⊎_elim}
use native.Mathlib.Omega.{arith}
use Rattle.model.specs.Table.{table}
use Rattle.table.specs.Formed.{arrays_of}
use Rattle.lookup.proofs.Finding.{searching_starts, searching_ends, searching_found, searching_more}
use Rattle.lookup.proofs.hold.Goals as goal

pub loop-i-init : goal.loop-i-init
loop-i-init c = searching_starts (arrays_of c.args.table) _ _ _

pub loop-i-preserved : goal.loop-i-preserved
loop-i-preserved c =
    searching_more (arrays_of c.args.table) _ _ _ _ _ c.loop-i.invariant c.if-count-i.false
    (λ b l. ⊎_elim (λ w. omega arith) (λ w. ⊎_elim (λ v. omega arith) (λ v. absurd (v b)) w) c.else-table-i.either)

pub returns-then-count-i : goal.returns-then-count-i
unfolding table
returns-then-count-i c = searching_ends (arrays_of c.args.table) _ _ _ _ _ c.loop-i.invariant c.if-count-i.true

pub returns-then-bucket-end : goal.returns-then-bucket-end
unfolding table
returns-then-bucket-end c =
    searching_found (arrays_of c.args.table) _ _ _ _ _ c.loop-i.invariant (omega arith) (omega arith) (omega arith) (omega arith)
