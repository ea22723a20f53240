use Rattle.std.proofs.Common.{◌≡◌, ℕ, ◌<◌, List, length, get_or}
use Rattle.cut_tests.specs.declared.job.Row.{Row}
use Rattle.cut_tests.specs.Rows.{IsRow}
use Rattle.cut_tests.proofs.job.Lists.list.Given as goal

abbrev pub invariant-loop-at : goal.invariant-loop-at
invariant-loop-at g l =
    (length l.self.rows ≡ 2773)
    × ((k : ℕ) (five : List ℕ) (row : Row) →
    k < l.at → k < 2773 → IsRow l.capacity (get_or l.numbers-items k five) (get_or l.self.rows k row))
    × (l.self.old ≡ l.fn.self.old)
