use mathlib.Core.Path.{refl}
use Rattle.mover.specs.Carry.{word_at}
use Rattle.mover.proofs.word_at.Goals as goal

pub returns : goal.returns
unfolding word_at
returns c = refl
