-- `table::slot_of` meets its contract. Assumes nothing.
use Prim.Native.Nat.{◌-◌}
use mathlib.Core.Path.{refl}
use native.Mathlib.Nat.{mod-lt, div-le_self}
use native.Mathlib.Omega.{arith}
use borrow.Author.Rules.{rules}
use Rattle.table.proofs.slot_of.Statement.{statement}
use Rattle.table.proofs.slot_of.Tie as tie

sub-rank : tie.Need-overflow_sub-rank
sub-rank c = search rules

rem-t4 : tie.Need-nonzero_rem-result
rem-t4 c = search rules

add-t5 : tie.Need-overflow_add-result
add-t5 c =
    let start = c.before.before.before in
    omega (arith, mod-lt (start.args.bucket - start.args.placing.adjustment) start.requires.some)

div-t6 : tie.Need-nonzero_div-result
div-t6 c = search rules

add-t7 : tie.Need-overflow_add-result-2
add-t7 c =
    let start = c.before.before.before.before in
    omega (arith, div-le_self (start.args.bucket - start.args.placing.adjustment) start.args.placing.bins, start.requires.limit)

returns : tie.Need-returns
returns c = refl

pub slot_of_spec : {M : Type 1} → statement M
slot_of_spec = tie.close (tie.spec
    sub-rank
    rem-t4
    add-t5
    div-t6
    add-t7
    returns)
