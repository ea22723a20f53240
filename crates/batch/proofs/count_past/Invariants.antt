use mathlib.Core.Path.{◌≡◌}
use Rattle.std.proofs.Common.{leb, take, count_by}
use Rattle.batch.proofs.count_past.Given as goal

abbrev pub invariant-loop-end : goal.invariant-loop-end
invariant-loop-end l = l.count ≡ count_by (λ end. leb end l.bucket) (take l.end-index l.ends)
