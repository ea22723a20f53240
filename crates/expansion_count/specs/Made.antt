-- What a growth makes of an old interval, and what it has written. Assumes nothing.
use Rattle.std.specs.Prelude.{ℕ, ◌+◌, ◌-◌, ◌≡◌, List, [], ltb, eqb, length}
use Rattle.model.specs.Basics.{if◌then◌otherwise◌}
use Rattle.model.specs.Table.{Shape, Interval, Table, shape}
use Rattle.model.specs.Expansion.{last_block, gain, parts, extended, drained, moved_after, expanded, moved as moved_of}
use Rattle.model.specs.Balance.{least as least_of}
use Rattle.model.specs.declared.plan.Plan.{Plan}
use Rattle.model.specs.declared.table.Header.{Header}
use Rattle.expansion_count.specs.declared.Written.{Written}

-- what the plan for interval i makes of it: the parts of its action, extended by m new buckets; they are 0 unless i is the
-- last interval
unfoldable pub made : Plan → Interval → ℕ → ℕ → List Interval
made p i g m = extended g i.end m p.moved (parts p.action i g [])

-- the new buckets behind interval i: all of them behind the last one
unfoldable pub left_behind : Header → ℕ → ℕ → ℕ
left_behind h buckets i = if ltb (i + 1) h.interval_count then 0 otherwise buckets - h.buckets

-- what block j gains in an interval of its own: the last interval's block gains in that one
unfoldable pub piece_of : Table → Shape → ℕ → ℕ
piece_of t s j = if eqb j (last_block t.intervals) then 0 otherwise gain t s j

-- what a growth has written by which some old block is due less
pub record CountedDrained (t : Table) (s : Shape) (r : Written) : Type 0 where
  pub intervals : r.intervals ≡ length (drained t s)
  pub moved : r.moved ≡ moved_after t s 0 t.intervals 0

-- what a growth has written: the new table's intervals, and the counted moves, which are the number of old buckets whose bin differs
-- and the formula with T
pub record Counted (t : Table) (s : Shape) (r : Written) : Type 0 where
  pub intervals : r.intervals ≡ length (expanded t s).intervals
  pub moved : r.moved ≡ moved_of t (expanded t s)
  pub least : r.moved ≡ least_of (shape t) s
