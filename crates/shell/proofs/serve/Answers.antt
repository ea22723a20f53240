use Rattle.std.proofs.Common.{◌∙◌, arith}
use Rattle.console.specs.Kept.{rack_of}
use Rattle.streams.proofs.Logging.{logged_place}
use Rattle.shell.proofs.Falling.{rests_read, ready_read}
use Rattle.shell.proofs.Running.{going_none, rests_idle, came_length, went_on, going_spent, going_on, going_whole, going_closed}
use Rattle.shell.proofs.serve.Goals as goal

pub loop-reads-init : goal.loop-reads-init
loop-reads-init c =
    record { going = going_none _ _ _ (c.requires.stands _); ready = c.requires.ready _; rests = c.requires.rests _ }

pub read-came-requires-clause-size_in_bounds : goal.read-came-requires-clause-size_in_bounds
read-came-requires-clause-size_in_bounds c = omega (arith, c.loop-reads.invariant.rests.few)

pub read-came-requires-clause-at_in_bounds : goal.read-came-requires-clause-at_in_bounds
read-came-requires-clause-at_in_bounds c = logged_place c.loop-reads.invariant.going.input_logged

pub receive-program-requires : goal.receive-program-requires
receive-program-requires c =
    let inv = c.loop-reads.invariant in
    (rests_read inv.rests c.read-came.ensures.kept, inv.ready.from, omega (arith, inv.rests.few), c.read-came.ensures.room)

pub invariant_of-program : goal.invariant_of-program
invariant_of-program c =
    let inv = c.loop-reads.invariant in
    record { sane = (c.receive-program.ensures.ready _ (ready_read inv.ready (omega (arith, inv.rests.few)))).sane }

pub work-done-requires-clause-read : goal.work-done-requires-clause-read
work-done-requires-clause-read c =
    let inv = c.loop-reads.invariant in
    let ready = c.receive-program.ensures.ready (rack_of c.loop-reads.program.rack) (ready_read inv.ready (omega (arith, inv.rests.few))) in
    (ready.from, ready.size)

pub work-done-requires-clause-text_in_bounds : goal.work-done-requires-clause-text_in_bounds
work-done-requires-clause-text_in_bounds c = logged_place c.loop-reads.invariant.going.text_logged

pub returns-then-done : goal.returns-then-done
returns-then-done c =
    let inv = c.loop-reads.invariant in
    let goes = went_on _ _ _ (c.receive-program.ensures.stands _) c.read-came.ensures.kept c.work-done.ensures.goes in
    going_closed inv.going c.read-came.ensures.logged c.work-done.ensures.logged goes (rests_idle _ inv.rests)
    (c.work-done.ensures.tried c.if-done.true)

pub returns-then-came-eq0 : goal.returns-then-came-eq0
returns-then-came-eq0 c =
    let inv = c.loop-reads.invariant in
    let goes = went_on _ _ _ (c.receive-program.ensures.stands _) c.read-came.ensures.kept c.work-done.ensures.goes in
    going_whole inv.going c.read-came.ensures.logged c.work-done.ensures.logged goes (rests_idle _ inv.rests)
    (came_length c.loop-reads.program.machine.size c.read-came.result.got c.read-came.new.block c.read-came.ensures.room ∙ c.if-came-eq0.true)
    (rests_idle _ (c.work-done.ensures.rests c.if-done.false))

pub loop-reads-preserved : goal.loop-reads-preserved
loop-reads-preserved c =
    let inv = c.loop-reads.invariant in
    let goes = went_on _ _ _ (c.receive-program.ensures.stands _) c.read-came.ensures.kept c.work-done.ensures.goes in
    let some = came_length c.loop-reads.program.machine.size c.read-came.result.got c.read-came.new.block c.read-came.ensures.room in
    record {
      going =
          going_on inv.going c.read-came.ensures.logged c.work-done.ensures.logged goes (omega (arith, some, c.if-came-eq0.false));
      ready = c.work-done.ensures.ready;
      rests = c.work-done.ensures.rests c.if-done.false;
    }

pub returns : goal.returns
returns c = going_spent c.loop-reads.invariant.going (omega (arith, c.loop-reads-test.false))
