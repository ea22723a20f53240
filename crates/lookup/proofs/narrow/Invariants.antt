use lib.ListN.{length}
use Rattle.lookup.specs.Search.{Among}
use Rattle.lookup.proofs.narrow.Given as goal

abbrev pub invariant-loop-count : goal.invariant-loop-count
invariant-loop-count l = Among l.ends (length l.ends) l.bucket l.low l.count

abbrev pub decreases-loop-count : goal.decreases-loop-count
decreases-loop-count l = l.count
