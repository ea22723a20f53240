-- `capi::irr_carry` meets its contract: that of the call it forwards. Assumes nothing.
use borrow.Author.Rules.{rules}
use Rattle.capi.proofs.irr_carry.Statement.{statement}
use Rattle.capi.proofs.irr_carry.Tie as tie

carry-requires : tie.Need-carry-requires
carry-requires c κs = search rules

same_length : tie.Need-shape_of-words
same_length c = search rules

returns : tie.Need-returns
returns c = c.carry.ensures

pub irr_carry_spec : {M : Type 1} → statement M
irr_carry_spec = tie.close (tie.spec
    carry-requires
    same_length
    returns)
