use mathlib.Core.Path.{sym, ◌∙◌, ap}
use native.Mathlib.Omega.{arith}
use lib.ListN.{length}
use Rattle.model.specs.Table.{Table}
use Rattle.model.proofs.Expanded.{expanded_drained, expanded_filled}
use Rattle.model.proofs.Steps.{drained_count, drained_moves, filled_moves}
use Rattle.model.proofs.Kept.{moved_is_least}
use Rattle.expansion_count.specs.Growths.{new_sizes}
use Rattle.expansion_count.proofs.Bounds.{filled_most}
use Rattle.expansion_count.proofs.Pieces.{grows_drains, growth_lent, growth_fills, blocks_few}
use Rattle.expansion_table.proofs.write_intervals.Goals as goal

pub write_drained-requires : goal.write_drained-requires
write_drained-requires c =
    let g = c.args.growth.now in
    record {
      one = g.table.tops.now;
      other = g.bins;
      holds = record {
        drains = grows_drains (growth_lent g);
        room = rw (drained_count _ _ _ g.table.formed g.grows.asked (sym g.grows.falling ∙ c.if-growth.true)) at c.requires;
      };
    }

pub returns-then-growth-clause-counted : goal.returns-then-growth-clause-counted
returns-then-growth-clause-counted c =
    let g = c.args.growth.now in
    let formed = g.table.formed in
    let asked = g.grows.asked in
    let falls = sym g.grows.falling ∙ c.if-growth.true in
    let counted = (c.write_drained.ensures _ _ (grows_drains (growth_lent g))).0 in
    let moves = counted.moved ∙ drained_moves _ _ _ formed asked falls in
    record {
      intervals = counted.intervals ∙ sym (drained_count _ _ _ formed asked falls);
      moved = moves;
      least = moves ∙ (moved_is_least _ _ _ formed asked).0;
    }

pub returns-then-growth-clause-stored : goal.returns-then-growth-clause-stored
returns-then-growth-clause-stored c =
    let g = c.args.growth.now in
    rw (expanded_drained _ (new_sizes g) (sym g.grows.falling ∙ c.if-growth.true))
    (c.write_drained.ensures _ _ (grows_drains (growth_lent g))).1

pub write_filled-intervals-requires-clause-room : goal.write_filled-intervals-requires-clause-room
write_filled-intervals-requires-clause-room c =
    let g = c.args.growth.now in
    rw (expanded_filled _ (new_sizes g) (growth_fills g c.if-growth.false).none) at c.requires

pub overflow_cast-result : goal.overflow_cast-result
overflow_cast-result c =
    let g = c.args.growth.now in
    omega (
      arith,
      c.write_filled-intervals.ensures.place,
      filled_most _ _ (new_sizes g) g.table.formed,
      g.grows.counted,
      blocks_few _ _ _ _ _ (growth_fills g c.if-growth.false) _ g.grows.counted,
      g.table.formed.interval_limit,
    )

pub returns-clause-counted : goal.returns-clause-counted
returns-clause-counted c =
    let g = c.args.growth.now in
    let none = (growth_fills g c.if-growth.false).none in
    let moves = filled_moves _ _ _ g.table.formed g.grows.asked none in
    record {
      intervals =
          c.write_filled-intervals.ensures.place
          ∙ ap (λ (u : Table). length u.intervals) (sym (expanded_filled _ (new_sizes g) none));
      moved = moves;
      least = moves ∙ (moved_is_least _ _ _ g.table.formed g.grows.asked).0;
    }

pub returns-clause-stored : goal.returns-clause-stored
returns-clause-stored c =
    let g = c.args.growth.now in
    rw (expanded_filled _ (new_sizes g) (growth_fills g c.if-growth.false).none) c.write_filled-intervals.ensures.stored
