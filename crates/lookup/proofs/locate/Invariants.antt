use Rattle.lookup.specs.Search.{Among}
use Rattle.lookup.proofs.locate.Given as goal

abbrev pub invariant-loop-count : goal.invariant-loop-count
invariant-loop-count l = Among l.table.ends.now l.table.header.interval_count l.bucket l.low l.count

abbrev pub decreases-loop-count : goal.decreases-loop-count
decreases-loop-count l = l.count
