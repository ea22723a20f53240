-- `below` says whether the blocks of the first i intervals are below G
use Rattle.std.proofs.Common.{◌≡◌, ltb, get_or}
use Rattle.model.specs.Basics.{all}
use Rattle.file_rules.specs.Judging.{file_arrays}
use Rattle.file_rules.proofs.File.blocks_wrong.Given as goal

abbrev pub invariant-loop-i : goal.invariant-loop-i
invariant-loop-i l =
    l.below ≡ all (λ k. ltb (get_or (file_arrays l.self.bytes.now l.self.header).blocks k 0) l.self.header.block_count) l.i
