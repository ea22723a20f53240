-- The loop's invariant: the machine has gone on, and no list is in progress.
use Rattle.std.proofs.Common.{◌≡◌, false, ◌-◌, length}
use Rattle.console.specs.Kept.{rack_of}
use Rattle.buffers.specs.Machine.{lists}
use Rattle.wheres.specs.Wheres.{Went}
use Rattle.answers.proofs.answer.Given as goal

abbrev pub invariant-loop-at : goal.invariant-loop-at
invariant-loop-at l =
    record {
      went : Went l.fn.program.machine (rack_of l.fn.program.rack) l.block l.put l.fn.out l.program.machine (rack_of l.program.rack) l.at l.out;
      none : lists l.program.machine ≡ false;
    }

abbrev pub decreases-loop-at : goal.decreases-loop-at
decreases-loop-at l = length l.block - l.program.machine.from
