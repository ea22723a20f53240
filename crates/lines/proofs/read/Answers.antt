use Rattle.lines.proofs.Reading.{read_long}
use Rattle.lines.proofs.read.Goals as goal

pub returns-then-line-gt64 : goal.returns-then-line-gt64
returns-then-line-gt64 c = read_long _ c.if-line-gt64.true
