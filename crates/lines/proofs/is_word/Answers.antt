-- The two tests compare head by head.
use Rattle.lines.proofs.Matches.{same_is_eq}
use Rattle.lines.proofs.is_word.Goals as goal

pub returns : goal.returns
returns c = same_is_eq c.args.word.now c.args.name.now _ c.eq.ensures
