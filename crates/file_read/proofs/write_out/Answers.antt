use Rattle.std.proofs.Common.{arith}
use Rattle.model.specs.Table.{arrays}
use Rattle.model.proofs.Rooms.{roomy}
use Rattle.file_read.proofs.write_out.Goals as goal

pub copy_numbers-requires : goal.copy_numbers-requires
copy_numbers-requires c = let room = roomy _ c.requires.opened.room in omega arith

pub copy_numbers-requires-2 : goal.copy_numbers-requires-2
copy_numbers-requires-2 c = let room = roomy _ c.requires.opened.room in omega arith

pub copy_numbers-requires-3 : goal.copy_numbers-requires-3
copy_numbers-requires-3 c = let room = roomy _ c.requires.opened.room in omega arith

pub copy-requires : goal.copy-requires
copy-requires c = let room = roomy _ c.requires.opened.room in omega arith

pub returns : goal.returns
returns c = λ i. arrays (c.copy_numbers.ensures i) (c.copy_numbers-2.ensures i) (c.copy_numbers-3.ensures i) (c.copy.ensures i)
