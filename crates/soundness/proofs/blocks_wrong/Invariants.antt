-- `ok` says whether the blocks of the first i intervals are below G
use Rattle.std.proofs.Common.{◌≡◌, ltb, get_or}
use Rattle.model.specs.Basics.{all}
use Rattle.soundness.proofs.blocks_wrong.Given as goal

abbrev pub invariant-loop-i : goal.invariant-loop-i
invariant-loop-i l = l.ok ≡ all (λ k. ltb (get_or l.blocks k 0) l.h.block_count) l.i
