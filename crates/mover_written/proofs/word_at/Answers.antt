use mathlib.Core.Path.{refl}
use Rattle.mover_written.specs.Carry.{word_at}
use Rattle.mover_written.proofs.word_at.Goals as goal

pub returns : goal.returns
unfolding word_at
returns c = refl
