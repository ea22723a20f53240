use Prim.Native.Nat.{◌+◌, ◌*◌, ◌/◌}
use mathlib.Core.Path.{◌≡◌}
use Rattle.rows.proofs.Runs.{Running}
use Rattle.rows.proofs.write_run.Given as goal

-- the rows up to so many pairs past `start` are written, and all pairs go up to the last bucket
abbrev pub invariant-loop-pair : goal.invariant-loop-pair
invariant-loop-pair l =
    Running l.old l.new l.bucket l.at l.fn.rows l.rows l.here l.there (l.start + 2 * l.pair) l.entry
    × (l.start + 2 * (l.count / 2) ≡ l.bucket + l.count)
