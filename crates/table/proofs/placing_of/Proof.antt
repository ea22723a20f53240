-- `table::placing_of` meets its contract. Assumes nothing.
use native.Mathlib.Omega.{arith}
use borrow.Author.Rules.{rules}
use Rattle.table.proofs.placing_of.Statement.{statement}
use Rattle.table.proofs.placing_of.Tie as tie

before-requires : tie.Need-before-first-requires
before-requires c κs = search rules

mul-t5 : tie.Need-offset_bounds-tops-block
mul-t5 c = search rules

shared-slice-read-t7 : tie.Need-bounds-tops-block
shared-slice-read-t7 c = search rules

sub-t8 : tie.Need-overflow_sub-result
sub-t8 c = search rules

returns : tie.Need-returns
returns c = (rw c.before.before-first.ensures, omega (arith, c.shared_slice_known-2-1.given c.before.before.before.args.block))

pub placing_of_spec : {M : Type 1} → statement M
placing_of_spec = tie.close (tie.spec
    before-requires
    mul-t5
    shared-slice-read-t7
    sub-t8
    returns)
