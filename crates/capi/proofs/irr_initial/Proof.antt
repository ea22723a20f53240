-- `capi::irr_initial` meets its contract: that of the call it forwards. Assumes nothing.
use borrow.Author.Rules.{rules}
use Rattle.capi.proofs.irr_initial.Statement.{statement}
use Rattle.capi.proofs.irr_initial.Tie as tie

initial-requires : tie.Need-initial-requires
initial-requires c κs = search rules

same_length : tie.Need-shape_of-tops
same_length c = search rules

same-length-2 : tie.Need-shape_of-ends
same-length-2 c = search rules

same-length-3 : tie.Need-shape_of-blocks
same-length-3 c = search rules

same-length-4 : tie.Need-shape_of-adjustments
same-length-4 c = search rules

returns : tie.Need-returns
returns c = c.initial.ensures

pub irr_initial_spec : {M : Type 1} → statement M
irr_initial_spec =
    tie.close
    (tie.spec
    initial-requires
    same_length
    same-length-2
    same-length-3
    same-length-4
    returns)
