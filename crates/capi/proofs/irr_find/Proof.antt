-- `capi::irr_find` meets its contract: that of the call it forwards. Assumes nothing.
use borrow.Author.Rules.{rules}
use Rattle.capi.proofs.irr_find.Statement.{statement}
use Rattle.capi.proofs.irr_find.Tie as tie

find-requires : tie.Need-find-requires
find-requires c κs = search rules

returns : tie.Need-returns
returns c = c.find.ensures

pub irr_find_spec : {M : Type 1} → statement M
irr_find_spec = tie.close (tie.spec
    find-requires
    returns)
