use Prim.Native.Nat.{ℕ, ◌≤◌, ◌<◌}
use mathlib.Core.Path.{◌≡◌, refl, sym, ◌∙◌}
use native.Mathlib.Omega.{arith}
use lib.ListN.{get_or, take}
use Rattle.model.specs.Basics.{before}
use Rattle.model.specs.Table.{bins}
use Rattle.model.specs.Search.{block_of_bin}
use Rattle.model.proofs.Finds.{holder_in}
use Rattle.table.specs.Formed.{arrays_of, table_of}
use Rattle.table.specs.declared.formed.FormedTable.{FormedTable}
use Rattle.lookup.proofs.Finding.{block_below_lem, rank_here, bucket_below, find_nothing, find_in}
use Rattle.lookup.proofs.bucket_at.Goals as goal

-- the bin is one of its block
here
    : (t : FormedTable) (y j : ℕ) → y < bins (table_of t) → j ≡ block_of_bin (take t.header.block_count t.tops.now) y
    → (j < t.header.block_count) × (before t.tops.now j ≤ y) × (before t.tops.now j < get_or t.tops.now j 0)
here t y j l e = block_below_lem t.header (arrays_of t) t.formed y 0 l j _ e refl

pub before-low-requires : goal.before-low-requires
before-low-requires c =
    omega (arith, (here c.args.table _ _ c.requires c.block_of_bin-block.ensures).0, c.args.table.formed.tops_long)

pub offset_bounds-table-block : goal.offset_bounds-table-block
offset_bounds-table-block c =
    omega (arith, (here c.args.table _ _ c.requires c.block_of_bin-block.ensures).0, c.args.table.formed.block_limit)

pub bounds-table-block : goal.bounds-table-block
bounds-table-block c =
    omega (arith, (here c.args.table _ _ c.requires c.block_of_bin-block.ensures).0, c.args.table.formed.tops_long)

pub overflow_sub-rank : goal.overflow_sub-rank
overflow_sub-rank c = omega (arith, (here c.args.table _ _ c.requires c.block_of_bin-block.ensures).2)

pub overflow_sub-rank-2 : goal.overflow_sub-rank-2
overflow_sub-rank-2 c = omega (arith, (here c.args.table _ _ c.requires c.block_of_bin-block.ensures).1)

pub overflow_cast-block : goal.overflow_cast-block
overflow_cast-block c =
    omega (arith, (here c.args.table _ _ c.requires c.block_of_bin-block.ensures).0, c.args.table.formed.block_limit)

pub returns-in_default : goal.returns-in_default
returns-in_default c =
    let t = c.args.table in
    find_nothing t.header (arrays_of t) t.formed _ _ c.requires _ _ c.block_of_bin-block.ensures c.before-low.ensures _
    (rank_here t.header (arrays_of t) t.formed _ _ c.requires _ _ c.block_of_bin-block.ensures c.before-low.ensures)
    (sym c.hold.ensures ∙ c.in_default.is)

pub offset_bounds-table-i : goal.offset_bounds-table-i
offset_bounds-table-i c =
    let t = c.args.table in
    omega (arith, (holder_in t.header (arrays_of t) _ _ _ (sym c.hold.ensures ∙ c.in-Some.is)).0, t.formed.interval_limit)

pub bounds-table-i : goal.bounds-table-i
bounds-table-i c =
    let t = c.args.table in
    omega (arith, (holder_in t.header (arrays_of t) _ _ _ (sym c.hold.ensures ∙ c.in-Some.is)).0, t.formed.adjustments_long)

pub overflow_cast-result-2 : goal.overflow_cast-result-2
overflow_cast-result-2 c =
    let t = c.args.table in
    let (below, including) = holder_in t.header (arrays_of t) _ _ _ (sym c.hold.ensures ∙ c.in-Some.is) in
    omega (arith, bucket_below t.header (arrays_of t) t.formed _ _ _ below including, t.formed.bucket_limit)

pub returns : goal.returns
returns c =
    let t = c.args.table in
    find_in t.header (arrays_of t) t.formed _ _ c.requires _ _ c.block_of_bin-block.ensures c.before-low.ensures _
    (rank_here t.header (arrays_of t) t.formed _ _ c.requires _ _ c.block_of_bin-block.ensures c.before-low.ensures) _
    (sym c.hold.ensures ∙ c.in-Some.is)
