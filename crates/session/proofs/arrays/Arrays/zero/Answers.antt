use Rattle.std.proofs.Common.{arith}
use Rattle.session.proofs.Rights.{clear}
use Rattle.session.proofs.arrays.Arrays.zero.Goals as goal

pub returns-clause-room : goal.returns-clause-room
returns-clause-room c = clear _ (record { tops = omega arith; ends = omega arith; blocks = omega arith; adjustments = omega arith })
