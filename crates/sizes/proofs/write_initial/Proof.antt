-- `sizes::write_initial` meets its contract: one entry of each array. Assumes nothing.
use native.Mathlib.Omega.{arith}
use Rattle.model.proofs.Rooms.{roomy, initial_written}
use borrow.Author.Rules.{rules}
use Rattle.sizes.proofs.write_initial.Statement.{statement}
use Rattle.sizes.proofs.write_initial.Tie as tie

slice-write-tops : tie.Need-bounds-tops-0
slice-write-tops c = let room = roomy _ c.requires in omega arith

slice-write-ends : tie.Need-bounds-ends-0
slice-write-ends c = let room = roomy _ c.requires in omega arith

slice-write-blocks : tie.Need-bounds-blocks-0
slice-write-blocks c = let room = roomy _ c.requires in omega arith

slice-write-adjustments : tie.Need-bounds-adjustments-0
slice-write-adjustments c = let room = roomy _ c.requires in omega arith

same_length : tie.Need-shape_of-tops
same_length c = search rules

same-length-2 : tie.Need-shape_of-ends
same-length-2 c = search rules

same-length-3 : tie.Need-shape_of-blocks
same-length-3 c = search rules

same-length-4 : tie.Need-shape_of-adjustments
same-length-4 c = search rules

returns : tie.Need-returns
returns c capacity = initial_written _ capacity _ (roomy _ c.requires)

pub write_initial_spec : {M : Type 1} → statement M
write_initial_spec =
    tie.close
    (tie.spec
    slice-write-tops
    slice-write-ends
    slice-write-blocks
    slice-write-adjustments
    same_length
    same-length-2
    same-length-3
    same-length-4
    returns)
