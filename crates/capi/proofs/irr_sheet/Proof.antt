-- `capi::irr_sheet` meets its contract: that of the call it forwards. Assumes nothing.
use borrow.Author.Rules.{rules}
use Rattle.capi.proofs.irr_sheet.Statement.{statement}
use Rattle.capi.proofs.irr_sheet.Tie as tie

sheet-requires : tie.Need-sheet-requires
sheet-requires c κs = search rules

same_length : tie.Need-shape_of-buffer
same_length c = search rules

returns : tie.Need-returns
returns c = c.sheet.ensures

pub irr_sheet_spec : {M : Type 1} → statement M
irr_sheet_spec = tie.close (tie.spec
    sheet-requires
    same_length
    returns)
