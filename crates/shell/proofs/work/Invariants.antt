-- The loop's invariant is the contract, with more to do; what falls is what is left to do.
use Rattle.console.specs.Kept.{rack_of}
use Rattle.buffers.specs.Machine.{stands, bytes_of}
use Rattle.shell.proofs.Falling as falling
use Rattle.shell.proofs.work.Given as goal

abbrev pub invariant-loop-rt : goal.invariant-loop-rt
invariant-loop-rt l =
    falling.Working l.fn.program.machine (rack_of l.fn.program.rack) l.fn.block l.fn.text_log l.fn.text l.program.machine l.text
    (rack_of l.program.rack) l.block l.text_log

abbrev pub decreases-loop-rt : goal.decreases-loop-rt
decreases-loop-rt l = falling.work (stands l.program.machine (rack_of l.program.rack) (bytes_of l.program.machine l.block))
