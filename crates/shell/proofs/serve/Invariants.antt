-- The loop's invariant: the machine can go on and has nothing left to do, what was read and put is recorded, and every read so far
-- has brought a byte.
use Rattle.console.specs.Kept.{rack_of}
use Rattle.buffers.specs.Machine.{stands, bytes_of, Rests, Ready}
use Rattle.shell.proofs.Running.{Going}
use Rattle.shell.proofs.serve.Given as goal

abbrev pub invariant-loop-reads : goal.invariant-loop-reads
invariant-loop-reads l =
    record {
      going : Going l.fn.input_log l.fn.text_log l.input_log l.text_log l.input l.text l._reads
          (stands l.program.machine (rack_of l.program.rack) (bytes_of l.program.machine l.block));
      ready : Ready l.program.machine (rack_of l.program.rack) l.block;
      rests : Rests l.program.machine l.block;
    }
