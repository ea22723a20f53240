-- the array has the sums before interval 2 * j, and the adjustments of the intervals before it are written
use Rattle.std.proofs.Common.{◌*◌}
use Rattle.file_rules.specs.Judging.{file_arrays}
use Rattle.file_rules.proofs.Adjusted.{Adjusted}
use Rattle.file_rules.proofs.File.adjust.Given as goal

abbrev pub invariant-loop-j : goal.invariant-loop-j
invariant-loop-j l =
    let file = file_arrays l.self.bytes.now l.self.header in
    Adjusted l.self.header file.tops file.ends file.blocks (2 * l.j) l.start l.sums l.initial.out l.out
