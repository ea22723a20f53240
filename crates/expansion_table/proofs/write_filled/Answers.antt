use Prim.Native.Nat.{ℕ, ◌-◌}
use mathlib.Core.List.{List}
use mathlib.Core.Path.{ap}
use native.Mathlib.Omega.{arith}
use lib.ListN.{length}
use Rattle.model.specs.Table.{Interval}
use Rattle.model.specs.Expansion.{filled}
use Rattle.model.proofs.Steps.{filled_length}
use Rattle.expansion_count.specs.declared.growth.Growth.{Growth}
use Rattle.expansion_count.specs.Growths.{old_table, new_sizes}
use Rattle.expansion_count.proofs.Pieces.{growth_fills, fills_asked, gain_from}
use Rattle.expansion_drain.specs.Stored.{Room}
use Rattle.expansion_drain.proofs.Stores.{room_less, stored_room}
use Rattle.expansion_table.proofs.Filling.{block_few, end_filled, end_most, old_stored, filled_pieces, filled_stored}
use Rattle.expansion_table.proofs.write_filled.Goals as goal

-- the old intervals but the last have room
olds-room
    : (g : Growth) {es bs cs : List ℕ} → Room (length (filled (old_table g) (new_sizes g))) es bs cs
    → Room (g.table.header.interval_count - 1) es bs cs
olds-room g r = room_less (omega (arith, filled_length _ _ (new_sizes g) g.table.formed)) r

pub overflow_sub-end : goal.overflow_sub-end
overflow_sub-end c =
    let g = c.args.growth.now in
    let fills = growth_fills g c.requires.none_falls in
    let block = ap (λ (v : Interval). v.block) c.interval_at-interval.ensures in
    rw block (omega (arith, gain_from _ _ _ _ _ fills _ (block_few _ _ _ _ _ fills)))

pub overflow_add-end : goal.overflow_add-end
overflow_add-end c =
    let g = c.args.growth.now in
    let fills = growth_fills g c.requires.none_falls in
    let block = ap (λ (v : Interval). v.block) c.interval_at-interval.ensures in
    let reaches = end_filled _ _ _ _ _ fills in
    rw block (omega (arith, reaches, end_most _ _ _ _ _ fills, (fills_asked _ _ _ _ _ fills).bucket_limit))

pub copy_intervals-requires-clause-room : goal.copy_intervals-requires-clause-room
copy_intervals-requires-clause-room c =
    olds-room c.args.growth.now c.requires.room

pub write_interval-requires : goal.write_interval-requires
write_interval-requires c =
    let g = c.args.growth.now in
    let fills = growth_fills g c.requires.none_falls in
    let olds = olds-room g c.requires.room in
    room_less (omega (arith, filled_length _ _ (new_sizes g) g.table.formed, g.table.formed.some_intervals))
    (stored_room (old_stored _ _ _ _ _ fills olds c.copy_intervals.ensures) c.requires.room)

pub write_pieces-requires-clause-start_value : goal.write_pieces-requires-clause-start_value
write_pieces-requires-clause-start_value c =
    let fills = growth_fills c.args.growth.now c.requires.none_falls in
    rw (ap (λ (v : Interval). v.block) c.interval_at-interval.ensures) (end_filled _ _ _ _ _ fills)

pub write_pieces-requires-clause-room : goal.write_pieces-requires-clause-room
write_pieces-requires-clause-room c =
    let g = c.args.growth.now in
    let fills = growth_fills g c.requires.none_falls in
    let olds = olds-room g c.requires.room in
    rw (ap (λ (v : Interval). v.block) c.interval_at-interval.ensures)
    (rw (filled_pieces _ _ _ _ _ fills _ _ (end_filled _ _ _ _ _ fills) g.grows.counted) at
    (stored_room c.write_interval.ensures
    (stored_room (old_stored _ _ _ _ _ fills olds c.copy_intervals.ensures) c.requires.room)))

pub returns-clause-place : goal.returns-clause-place
returns-clause-place c =
    let g = c.args.growth.now in
    let fills = growth_fills g c.requires.none_falls in
    let block = ap (λ (v : Interval). v.block) c.interval_at-interval.ensures in
    let place = rw block at c.write_pieces.ensures.place in
    omega (arith, place, filled_pieces _ _ _ _ _ fills _ _ (end_filled _ _ _ _ _ fills) g.grows.counted)

pub returns-clause-stored : goal.returns-clause-stored
returns-clause-stored c =
    let g = c.args.growth.now in
    let fills = growth_fills g c.requires.none_falls in
    let own = c.interval_at-interval.ensures in
    let block = ap (λ (v : Interval). v.block) own in
    let adjustment = ap (λ (v : Interval). v.adjustment) own in
    let olds = olds-room g c.requires.room in
    filled_stored _ _ _ _ _ fills _ _ (end_filled _ _ _ _ _ fills) g.grows.counted
    (old_stored _ _ _ _ _ fills olds c.copy_intervals.ensures)
    (rw (block, adjustment) at c.write_interval.ensures)
    (rw block at c.write_pieces.ensures.stored)
