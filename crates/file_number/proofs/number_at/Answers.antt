use Rattle.std.proofs.Common.{arith}
use Rattle.model.specs.Saved.{number}
use Rattle.file_number.proofs.number_at.Goals as goal

pub returns : goal.returns
unfolding number
returns c = omega (arith, c.from_le_bytes.ensures)
