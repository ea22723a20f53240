use Rattle.std.proofs.Common.{refl}
use Rattle.written.specs.Written.{written, bit_of}
use Rattle.written.proofs.is_written.Goals as goal

pub returns : goal.returns
unfolding written bit_of
returns c = refl
