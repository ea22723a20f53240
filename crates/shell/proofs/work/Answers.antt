use Rattle.std.proofs.Common.{true, false}
use Rattle.std.proofs.lemmas.Bool.{true≢false, false≢true}
use Rattle.streams.proofs.Logging.{logged_place}
use Rattle.shell.proofs.Falling as falling
use Rattle.shell.proofs.work.Goals as goal

pub loop-rt-init : goal.loop-rt-init
loop-rt-init c =
    falling.working_none (record { sane = c.args.program.now.sane; from = c.requires.read.0; size = c.requires.read.1 })
    c.requires.text_in_bounds

pub turn-after-requires : goal.turn-after-requires
turn-after-requires c = (c.loop-rt.invariant.ready.from, c.loop-rt.invariant.ready.size)

pub write-written-requires-clause-at_in_bounds : goal.write-written-requires-clause-at_in_bounds
write-written-requires-clause-at_in_bounds c = logged_place c.loop-rt.invariant.logged

pub returns-then-written : goal.returns-then-written
returns-then-written c =
    falling.worked_done c.loop-rt.invariant c.turn-after.ensures c.write-written.ensures.logged true (λ e. absurd (true≢false e))
    (λ e. c.write-written.ensures.tried c.if-written.true)

pub returns-then-not-after : goal.returns-then-not-after
returns-then-not-after c =
    falling.worked_done c.loop-rt.invariant c.turn-after.ensures c.write-written.ensures.logged false
    (λ e. falling.not_true _ c.if-not-after.true) (λ e. absurd (false≢true e))

pub loop-rt-smaller : goal.loop-rt-smaller
loop-rt-smaller c = falling.falls c.turn-after.ensures.turned (falling.not_false _ c.if-not-after.false)

pub loop-rt-preserved : goal.loop-rt-preserved
loop-rt-preserved c = falling.working_then c.loop-rt.invariant c.turn-after.ensures c.write-written.ensures.logged
