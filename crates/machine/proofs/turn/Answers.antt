use Rattle.machine.proofs.Turning.{page_turns, lines_turns, kept_turns}
use Rattle.machine.proofs.turn.Goals as goal

pub returns-then-listed : goal.returns-then-listed
returns-then-listed c =
    page_turns (record { sane = c.args.program.now.sane; from = c.requires.0; size = c.requires.1 }) c.page-listed.ensures c.if-listed.true

pub returns-then-answered : goal.returns-then-answered
returns-then-answered c =
    lines_turns (record { sane = c.args.program.now.sane; from = c.requires.0; size = c.requires.1 }) c.page-listed.ensures
    c.answer-answered.ensures c.if-answered.true

pub returns : goal.returns
returns c =
    rw c.keep-program.ensures.value
    (kept_turns (record { sane = c.args.program.now.sane; from = c.requires.0; size = c.requires.1 }) c.page-listed.ensures
    c.answer-answered.ensures c.if-answered.false _ c.keep-program.ensures.block_after)
