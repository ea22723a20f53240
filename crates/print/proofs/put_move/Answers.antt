use Rattle.model.specs.Console.{text, line}
use Rattle.print.specs.Numbers.{numbers, line_of}
use Rattle.print.proofs.put_move.Goals as goal

pub returns : goal.returns
unfolding text line numbers line_of
returns c = c.put_line.ensures
