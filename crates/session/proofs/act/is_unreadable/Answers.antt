use Rattle.std.proofs.Common.{sym}
use Rattle.model.specs.Console.{is_unreadable}
use Rattle.session.proofs.Tags.{readable}
use Rattle.session.proofs.act.is_unreadable.Goals as goal

pub returns-in-Unreadable : goal.returns-in-Unreadable
unfolding is_unreadable
returns-in-Unreadable c = rw c.in-Unreadable.is

pub returns-in_default : goal.returns-in_default
returns-in_default c = sym (readable c.args.command c.in_default.not-Unreadable)
