use Rattle.std.proofs.Common.{rules, ◌≡◌, length, take}
use lib.Seq.{length-take-le}
use Rattle.model.specs.Table.{over}
use Rattle.table.proofs.copy.Goals as goal

-- src/lib.rt:96:1
pub returns : goal.returns
unfolding over
returns c = rw (length-take-le c.args.count c.args.from.now c.requires.0, c.copy_from_slice.ensures.after)
