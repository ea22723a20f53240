use Rattle.std.proofs.Common.{sym, arith}
use Rattle.lines.specs.Words.{by_asked}
use Rattle.lines.proofs.Asking.{asks_for, asks_none}
use Rattle.lines.proofs.asked.where_at.Goals as goal

pub returns-then-block-from-lt17 : goal.returns-then-block-from-lt17
unfolding by_asked
returns-then-block-from-lt17 c = λ h. absurd (omega arith)

pub returns-then-says_where : goal.returns-then-says_where
returns-then-says_where c = asks_for _ _ (sym c.if-says_where.ensures) _ c.bucket_at.ensures

pub returns : goal.returns
unfolding by_asked
returns c = asks_none _ _ (sym c.if-says_where.ensures)
