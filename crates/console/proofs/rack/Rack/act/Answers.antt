use Rattle.std.proofs.Common.{◌≡◌}
use Rattle.session.specs.Held.{arrays_of}
use Rattle.session.specs.Maps.{session, next}
use Rattle.model.specs.Console.{command_answer}
use Rattle.console.specs.Rack.{rack, held}
use Rattle.console.specs.Kept.{rack_of}
use Rattle.console.proofs.Serving.{first_right, second_right, first_next, second_next, right_after}
use Rattle.console.proofs.rack.Rack.act.Goals as goal
use Rattle.console.proofs.rack.Rack.act.Goals.{then-state, else-state}

pub act_on-done-requires : goal.act_on-done-requires
act_on-done-requires c = second_right _ _ _ c.if-state.true c.args.self.now.right

pub act_on-done-requires-else-state : goal.act_on-done-requires-else-state
act_on-done-requires-else-state c = first_right _ _ _ c.if-state.false c.args.self.now.right

-- what the command did, by which table was the map
done
    : (c : goal.After-self-1)
    → (held (rack c.if-state.done.state (arrays_of c.if-state.self.1.1.0) (arrays_of c.if-state.self.1.1.1.0))
    ≡ next (held (rack_of c.args.self.now)) c.args.command)
    × (c.if-state.done.answer ≡ command_answer (session (held (rack_of c.args.self.now))) c.args.command)
done c =
    elim c.if-state.branch [
      | then-state w ↦ rw (w.self-is, w.done-is) (second_next _ _ _ _ _ _ _ w.if-state.true w.act_on-done.ensures)
      | else-state w ↦ rw (w.self-is, w.done-is) (first_next _ _ _ _ _ _ _ w.if-state.false w.act_on-done-else-state.ensures)
    ]

pub invariant_of-self : goal.invariant_of-self
invariant_of-self c = record { right = right_after _ _ _ c.args.self.now.right (done c).0 }

pub returns : goal.returns
returns c = record { maps = (done c.before).0; answer = (done c.before).1 }
