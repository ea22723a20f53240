use Rattle.console.proofs.Serving.{served}
use Rattle.console.proofs.rack.Rack.step.Goals as goal

pub returns : goal.returns
returns c = served c.read-command.ensures c.act-answer.ensures.maps c.act-answer.ensures.answer c.reply.ensures.given c.reply.ensures.bytes
