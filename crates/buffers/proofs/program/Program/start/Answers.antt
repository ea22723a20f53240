use Rattle.std.proofs.Common.{refl}
use Rattle.std.proofs.lemmas.Bool.{false≢true}
use Rattle.buffers.proofs.Receiving.{begins, begins_with, no_map_held}
use Rattle.buffers.proofs.program.Program.start.Goals as goal

pub invariant_of-result : goal.invariant_of-result
invariant_of-result c = record { sane = record { right = c.empty.result.right; row = λ e. absurd (false≢true e) } }

pub returns : goal.returns
returns c =
    record {
      begins = begins _ _ refl refl refl refl c.empty.ensures (record { right = c.empty.result.right; row = λ e. absurd (false≢true e) });
      tables = begins_with _ _ refl refl refl refl (no_map_held c.empty.result.state _ _ c.empty.ensures);
    }
