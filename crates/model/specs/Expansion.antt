-- Document 01, 'A fresh map and a growth': the growth. `t` is the old table and `s` the sizes B' and n'. Assumes nothing.
use Rattle.std.specs.Prelude.{ℕ, zero, suc, ◌+◌, ◌-◌, Bool, not, List, [], ◌∷◌, ◌++◌, length, leb, ltb, eqb}
use Rattle.model.specs.Basics.{if◌then◌otherwise◌, all, count}
use Rattle.model.specs.Table.{Shape, Interval, interval, Table, bins}
use Rattle.model.specs.Place.{held, bin}
use Rattle.model.specs.Due.{due_of_block}
use Rattle.model.specs.declared.plan.Plan.{Plan}
use Rattle.model.specs.declared.plan.Action.{Action}
use Rattle.model.specs.declared.plan.Action.TheVariants.{Stay, Move, Split}

-- the tops: one new block with top n' is added if n' > n
unfoldable pub grown_tops : Table → Shape → List ℕ
grown_tops t s = if ltb (bins t) s.bins then t.tops ++ (s.bins ∷ []) otherwise t.tops

-- what block j has, and what it is due after the growth
unfoldable pub has : Table → ℕ → ℕ
has t j = held t j t.buckets

unfoldable pub due_after : Table → Shape → ℕ → ℕ
due_after t s j = due_of_block s (grown_tops t s) j

-- some old block is due less than it has
unfoldable pub some_fall : Table → Shape → Bool
some_fall t s = not (all (λ j. leb (has t j) (due_after t s j)) (length t.tops))

-- the block of the last interval
unfoldable pub last_block : List Interval → ℕ
last_block [] = 0
last_block (i ∷ []) = i.block
last_block (i ∷ (j ∷ rest)) = last_block (j ∷ rest)

-- the last interval made m longer
unfoldable pub lengthened : ℕ → List Interval → List Interval
lengthened m [] = []
lengthened m (i ∷ []) = interval (i.end + m) i.block i.adjustment ∷ []
lengthened m (i ∷ (j ∷ rest)) = i ∷ lengthened m (j ∷ rest)

-- NO OLD BLOCK IS DUE LESS THAN IT HAS

-- what block j gains
unfoldable pub gain : Table → Shape → ℕ → ℕ
gain t s j = due_after t s j - has t j

-- where the last interval ends once its block has taken what it gains: there the other pieces begin
abbrev pub length_to : Table → Shape → ℕ
length_to t s = t.buckets + gain t s (last_block t.intervals)

-- the new intervals from bucket b on, for the n blocks from j on in rising number: each that gains, but the last
-- interval's block, gets one, which brings it to its due; the adjustment is the start minus what the block had
unfoldable pub pieces : Table → Shape → ℕ → ℕ → ℕ → List Interval
pieces t s b j zero = []
pieces t s b j (suc n) =
    if eqb j (last_block t.intervals) then pieces t s b (suc j) n
    otherwise if eqb (gain t s j) 0 then pieces t s b (suc j) n
    otherwise interval (b + gain t s j) j (b - has t j) ∷ pieces t s (b + gain t s j) (suc j) n

-- the last interval's block takes its buckets first, and its piece lengthens that interval; then come the other old
-- blocks, and the new block, whose number is the highest
unfoldable pub filled : Table → Shape → List Interval
filled t s =
    lengthened (gain t s (last_block t.intervals)) t.intervals
    ++ pieces t s (t.buckets + gain t s (last_block t.intervals)) 0 (length (grown_tops t s))

-- SOME OLD BLOCK IS DUE LESS

-- the plan for an interval i that starts at `start`, where its block is due `due` and w buckets have moved so far:
-- the action, and the buckets moved after it
unfoldable pub plan : ℕ → ℕ → Interval → ℕ → Plan
plan due start i w =
    if leb (i.end - i.adjustment) due then record { action = Stay; moved = w }
    otherwise if leb due (start - i.adjustment) then record { action = Move (start - w); moved = w + (i.end - start) }
    otherwise record {
      action = Split (due + i.adjustment) (due + i.adjustment - w);
      moved = w + (i.end - (due + i.adjustment));
    }

-- what an action makes of interval i, in front of the rest: what moves goes to block g
unfoldable pub parts : Action → Interval → ℕ → List Interval → List Interval
parts Stay i g rest = i ∷ rest
parts (Move c) i g rest = interval i.end g c ∷ rest
parts (Split b c) i g rest = interval b i.block i.adjustment ∷ interval i.end g c ∷ rest

unfoldable pub plan_for : Table → Shape → ℕ → Interval → ℕ → Plan
plan_for t s start i w = plan (due_after t s i.block) start i w

-- the old intervals from `start` on after their actions, w buckets having moved before them
unfoldable pub parted : Table → Shape → ℕ → List Interval → ℕ → List Interval
parted t s start [] w = []
parted t s start (i ∷ rest) w =
    parts (plan_for t s start i w).action i (length t.tops) (parted t s i.end rest (plan_for t s start i w).moved)

-- the buckets moved after them
unfoldable pub moved_after : Table → Shape → ℕ → List Interval → ℕ → ℕ
moved_after t s start [] w = w
moved_after t s start (i ∷ rest) w = moved_after t s i.end rest (plan_for t s start i w).moved

-- the new buckets, m of them from b on, go to the new block g: they lengthen the last interval if it is of that block,
-- which is so if the last old interval moved or split; otherwise, if there are any, they form one with adjustment b - w
unfoldable pub extended : ℕ → ℕ → ℕ → ℕ → List Interval → List Interval
extended g b m w is =
    if eqb (last_block is) g then lengthened m is
    otherwise if eqb m 0 then is
    otherwise is ++ (interval (b + m) g (b - w) ∷ [])

unfoldable pub drained : Table → Shape → List Interval
drained t s =
    extended (length t.tops) t.buckets (s.buckets - t.buckets) (moved_after t s 0 t.intervals 0)
    (parted t s 0 t.intervals 0)

-- THE NEW TABLE: its capacity is the old one

unfoldable pub expanded : Table → Shape → Table
expanded t s =
    record {
      buckets = s.buckets;
      capacity = t.capacity;
      tops = grown_tops t s;
      intervals = if some_fall t s then drained t s otherwise filled t s;
    }

-- the number of moved buckets between two mappings: old buckets whose bin differs
unfoldable pub differs : Table → Table → ℕ → Bool
differs t u x = not (eqb (bin t x) (bin u x))

unfoldable pub moved : Table → Table → ℕ
moved t u = count (differs t u) t.buckets
