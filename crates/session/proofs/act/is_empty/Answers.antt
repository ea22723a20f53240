use Rattle.std.proofs.Common.{sym}
use Rattle.session.specs.Maps.{is_empty}
use Rattle.session.proofs.Tags.{not_empty}
use Rattle.session.proofs.act.is_empty.Goals as goal

pub returns-in-Empty : goal.returns-in-Empty
unfolding is_empty
returns-in-Empty c = rw c.in-Empty.is

pub returns-in_default : goal.returns-in_default
returns-in_default c = sym (not_empty c.args.state.stage c.in_default.not-Empty)
