-- One turn of the pass over the old intervals of a growth. Assumes nothing.
use Prim.Native.Nat.{ℕ, ◌+◌, ◌^◌, ◌≤◌, ◌<◌}
use mathlib.Core.Path.{◌≡◌}
use mathlib.Core.List.{List}
use native.Mathlib.Omega.{arith}
use lib.ListN.{get_or}
use Rattle.model.specs.Limits.{max_blocks}
use Rattle.model.specs.Table.{Interval, Arrays, arrays, table, sizes}
use Rattle.model.specs.Lent.{lent}
use Rattle.model.specs.Expansion.{plan, plan_for}
use Rattle.model.specs.declared.plan.Plan.{Plan}
use Rattle.model.specs.declared.table.Header.{Header}
use Rattle.model.proofs.Growths.{accepted}
use Rattle.model.proofs.Steps.{Walk, walk_next}
use Rattle.model.proofs.Wells.{adjustment_most}
use Rattle.expansion_plan.specs.Shares.{interval_at}
use Rattle.expansion_plan.proofs.Turns.{planned}
use Rattle.expansion_count.specs.Given.{Drains}
use Rattle.expansion_count.specs.Made.{made, left_behind}
use Rattle.expansion_count.proofs.Parts.{Front, to_make, behind_fits, made_first}

-- the plan for an interval that is read
pub plan_read
    : {i j : Interval} {p : Plan} (dues : List ℕ) (start w : ℕ) → j ≡ i → p ≡ plan (get_or dues j.block 0) start j w
    → p ≡ plan (get_or dues i.block 0) start i w
plan_read dues start w e k = rw e at k

module _
    {h : Header}
    {ends blocks adjustments : List ℕ}
    {buckets : ℕ}
    {dues tops : List ℕ}
    {bins : ℕ}
    (d : Drains h ends blocks adjustments buckets dues tops bins)
    (i start w : ℕ)
    (l : i < h.interval_count)
  where
    abbrev a : Arrays
    a = arrays tops ends blocks adjustments

    -- what the plan for interval i asks for
    pub turn_asks
        : Walk h a (sizes buckets bins) i start w
        → (get_or blocks i 0 < max_blocks)
        × (get_or adjustments i 0 ≤ start)
        × (start < get_or ends i 0)
        × (w ≤ start)
    turn_asks walk = (
      omega (arith, d.formed.blocks_below i l, d.formed.block_limit),
      omega (arith, adjustment_most h a d.formed i l, walk.starts),
      omega (arith, d.formed.ends_rise i l, walk.starts),
      walk.below,
    )

    -- interval i starts at `start`, w buckets have moved before it, and this is its plan, with the m new buckets behind it
    module _ (p : Plan) (e : p ≡ plan (get_or dues (get_or blocks i 0) 0) start (interval_at a i) w) where
      turn-plan : p ≡ plan_for (lent h tops ends blocks adjustments) (sizes buckets bins) start (interval_at a i) w
      turn-plan = planned _ _ d.formed (sizes buckets bins) dues d.after i start w l p e

      -- where the walk comes to
      pub turn_walk
          : Walk h a (sizes buckets bins) i start w → Walk h a (sizes buckets bins) (i + 1) (get_or ends i 0) p.moved
      turn_walk walk = walk_next _ _ _ i start w l p turn-plan d.formed walk

      -- what the plan makes of the interval comes first
      pub turn_made
          : (m : ℕ) → m ≡ left_behind h buckets i
          → Front
          (to_make h a (sizes buckets bins) i start w)
          (made p (interval_at a i) h.block_count m)
          (to_make h a (sizes buckets bins) (i + 1) (get_or ends i 0) p.moved)
      turn_made m q = made_first _ _ (sizes buckets bins) d.formed i start w l p turn-plan m q

      -- what its writing asks for
      pub turn_ready
          : Walk h a (sizes buckets bins) i start w → (m : ℕ) → m ≡ left_behind h buckets i
          → (get_or blocks i 0 < h.block_count) × (p.moved ≤ get_or ends i 0) × (get_or ends i 0 + m < 2 ^ 32)
      unfolding table
      turn_ready walk m q =
          let asked = accepted _ _ d.asked in
          let fits = behind_fits _ _ (sizes buckets bins) d.formed i l asked.more_buckets in
          (d.formed.blocks_below i l, (turn_walk walk).below, omega (arith, fits, q, asked.bucket_limit))
