-- Where the search for a bucket's interval stands among the ends of a table's intervals. Assumes nothing.
use Rattle.std.specs.Prelude.{ℕ, ◌+◌, ◌≤◌, ◌<◌, List, length, get_or}
use Rattle.model.specs.Basics.{before}

-- the first k of an array's entries rise
pub record Ends (ends : List ℕ) (k : ℕ) : Type 0 where
  pub long : k ≤ length ends
  pub rise : (i : ℕ) → i < k → before ends i < get_or ends i 0

-- of k intervals with these ends, the bucket lies in one of `count` from place `low` on
pub record Among (ends : List ℕ) (k bucket low count : ℕ) : Type 0 where
  pub some : 1 ≤ count
  pub within : low + count ≤ k
  pub from : before ends low ≤ bucket
  pub to : bucket < before ends (low + count)
