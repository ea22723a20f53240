use Rattle.std.proofs.Common.{◌≡◌, ℕ, ◌<◌, true, length, get_or}
use Rattle.cut_tests.specs.declared.job.Due.{Due}
use Rattle.cut_tests.specs.Tables.{bucket_word}
use Rattle.cut_tests.specs.Rows.{due_of}
use Rattle.cut_tests.proofs.job.Lists.places.Given as goal

abbrev pub invariant-loop-at : goal.invariant-loop-at
invariant-loop-at l =
    (length l.self.old ≡ 13865)
    × ((d : Due) (k : ℕ) → k < l.at → get_or l.self.old k d ≡ due_of k (bucket_word l.table l.header k) true)
    × (l.self.rows ≡ l.fn.self.rows)
