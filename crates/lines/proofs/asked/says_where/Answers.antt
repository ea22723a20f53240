use Rattle.lines.proofs.Asking.{starts_where}
use Rattle.lines.proofs.asked.says_where.Goals as goal

pub returns : goal.returns
returns c = starts_where _ _ _ c.requires c.starts_with.ensures.value
