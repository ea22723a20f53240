-- `table::before` meets its contract. Assumes nothing.
use mathlib.Core.Path.{sym}
use borrow.Author.Rules.{rules}
use native.Mathlib.Omega.{arith}
use Rattle.model.specs.Basics.{before as entry_before}
use Rattle.model.proofs.Rules.{before_some}
use Rattle.table.proofs.before.Statement.{statement}
use Rattle.table.proofs.before.Tie as tie

sub-result : tie.Need-overflow_sub-result
sub-result c = search rules

mul-result : tie.Need-offset_bounds-xs-i
mul-result c = search rules

shared-slice-read-result : tie.Need-bounds-xs-i
shared-slice-read-result c = search rules

returns : tie.Need-returns-then-i-eq0
unfolding entry_before
returns c = search rules

returns-2 : tie.Need-returns-else-i-eq0
returns-2 c = sym (before_some _ _ (omega arith))

pub before_spec : {M : Type 1} → statement M
before_spec = tie.close (tie.spec
    sub-result
    mul-result
    shared-slice-read-result
    returns
    returns-2)
