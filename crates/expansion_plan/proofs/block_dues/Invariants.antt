use Rattle.std.proofs.Common.{◌≡◌}
use Rattle.model.specs.Basics.{before}
use Rattle.model.specs.Table.{sizes}
use Rattle.model.specs.Balance.{due_below}
use Rattle.expansion_plan.specs.Shares.{Dues}
use Rattle.expansion_plan.proofs.block_dues.Given as goal

-- `below` is what the bins before block j are due, and the blocks below j have their dues
abbrev pub invariant-loop-j : goal.invariant-loop-j
invariant-loop-j l =
    (l.below ≡ due_below (sizes l.buckets l.bins) (before l.tops l.j)) × Dues (sizes l.buckets l.bins) l.tops l.j l.fn.dues l.dues
