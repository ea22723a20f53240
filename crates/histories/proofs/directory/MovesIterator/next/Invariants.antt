-- The range ends at the buckets there were.
use Rattle.std.proofs.Common.{◌≡◌}
use Rattle.histories.proofs.directory.MovesIterator.next.Given as goal

abbrev pub invariant-loop-bucket : goal.invariant-loop-bucket
invariant-loop-bucket l = (l.self ≡ l.fn.self) × (l.bucket-end ≡ l.fn.self.directory.now.old_buckets)
