use mathlib.Core.Path.{◌≡◌}
use lib.ListN.{get_or}
use lib.Dec.{leb}
use Rattle.model.specs.Basics.{all, before}
use Rattle.batch.proofs.falls.Given as goal

-- `rise` says whether the first `next` buckets do not fall
abbrev pub invariant-loop-next : goal.invariant-loop-next
invariant-loop-next l = l.rise ≡ all (λ k. leb (before l.buckets k) (get_or l.buckets k 0)) l.next
