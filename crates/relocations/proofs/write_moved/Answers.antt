use native.Mathlib.Omega.{arith}
use Rattle.model.specs.Table.{sizes}
use Rattle.table.specs.Formed.{table_of, arrays_of}
use Rattle.model.proofs.Growths.{accepted}
use Rattle.expansion_plan.proofs.Turns.{planned}
use Rattle.relocations.proofs.Walking.{walking_starts, walking_full, walking_ends, walking_parts, walking_more}
use Rattle.relocations.proofs.write_moved.Goals as goal

pub loop-i-init : goal.loop-i-init
loop-i-init c b m =
    walking_starts c.args.table.header (arrays_of c.args.table) (sizes b c.args.bins) c.args.table.formed m.asked m.falls
    c.args.first c.args.rows.now

pub returns-then-room-saturating_sub : goal.returns-then-room-saturating_sub
returns-then-room-saturating_sub c b m =
    let at = c.loop-i in
    walking_full c.args.table.header (arrays_of c.args.table) (sizes b c.args.bins) c.args.table.formed m.asked m.falls
    c.args.first c.args.rows.now at.rows at.i at.start at.moved
    (at.invariant b m)
    c.loop-i-test.true
    (omega (arith, c.if-room-saturating_sub.true, c.saturating_sub.ensures))

pub overflow_sub-bins : goal.overflow_sub-bins
overflow_sub-bins c =
    omega (arith, (accepted (table_of c.args.table) (sizes c.requires.0 c.args.bins) c.requires.1.asked).more_bins, c.bins-old_bins.ensures)

pub write_action-requires : goal.write_action-requires
write_action-requires c =
    let at = c.loop-i in
    let m = c.requires.1 in
    let l = c.loop-i-test.true in (
      at.moved,
      walking_parts c.args.table.header (arrays_of c.args.table) (sizes c.requires.0 c.args.bins) c.args.table.formed m.asked m.falls
          c.args.first c.args.rows.now at.rows at.i at.start at.moved
          (at.invariant _ m)
          l
          c.plan_at-plan.result
          c.placing.result
          c.bins-old_bins.result
          (planned _ _ c.args.table.formed _ c.args.dues.now m.after _ _ _ l _ c.plan_at-plan.ensures)
          c.placing.ensures
          c.bins-old_bins.ensures,
    )

pub loop-i-preserved : goal.loop-i-preserved
loop-i-preserved c b m =
    let at = c.loop-i in
    let l = c.loop-i-test.true in
    walking_more c.args.table.header (arrays_of c.args.table) (sizes b c.args.bins) c.args.table.formed m.asked m.falls
    c.args.first c.args.rows.now at.rows at.i at.start at.moved
    (at.invariant b m)
    l
    c.plan_at-plan.result
    c.placing.result
    c.bins-old_bins.result
    (planned _ _ c.args.table.formed _ c.args.dues.now m.after _ _ _ l _ c.plan_at-plan.ensures)
    c.placing.ensures
    c.bins-old_bins.ensures
    _
    c.write_action.ensures

pub returns : goal.returns
returns c b m =
    let at = c.loop-i in
    walking_ends c.args.table.header (arrays_of c.args.table) (sizes b c.args.bins) c.args.table.formed m.asked m.falls
    c.args.first c.args.rows.now at.rows at.i at.start at.moved
    (at.invariant b m)
    (omega (arith, c.loop-i-test.false))
