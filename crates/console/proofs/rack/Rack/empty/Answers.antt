use Rattle.std.proofs.Common.{rules}
use Rattle.std.proofs.lemmas.Bool.{false≢true, true≢false}
use Rattle.model.specs.Basics.{if◌then◌otherwise◌}
use Rattle.session.specs.Maps.{session_at, session, is_empty, is_grown}
use Rattle.console.specs.Rack.{held}
use Rattle.console.proofs.rack.Rack.empty.Goals as goal

pub invariant_of-result : goal.invariant_of-result
unfolding held if◌then◌otherwise◌ is_empty is_grown
invariant_of-result c =
    record {
      right =
          record {
            room = c.zero.ensures.room;
            other_room = c.zero-2.ensures.room;
            sound = λ e. absurd (true≢false e);
            grown = λ e. absurd (false≢true e);
          };
    }

pub returns : goal.returns
unfolding held if◌then◌otherwise◌ session session_at
returns c = search rules
