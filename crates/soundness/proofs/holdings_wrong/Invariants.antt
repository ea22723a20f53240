-- `below` is what the bins before block j are due, and the first j blocks hold their dues
use Rattle.std.proofs.Common.{◌≡◌, ℕ, ◌<◌, get_or}
use Rattle.model.specs.Basics.{before}
use Rattle.model.specs.Due.{due_of_block}
use Rattle.model.specs.Balance.{due_below}
use Rattle.model.proofs.Holdings.{lent_shape}
use Rattle.soundness.proofs.holdings_wrong.Given as goal

abbrev pub invariant-loop-j : goal.invariant-loop-j
invariant-loop-j l =
    (l.below ≡ due_below (lent_shape l.fn.h l.tops) (before l.tops l.j))
    × ((m : ℕ) → m < l.j → get_or l.sums m 0 ≡ due_of_block (lent_shape l.fn.h l.tops) l.tops m)
