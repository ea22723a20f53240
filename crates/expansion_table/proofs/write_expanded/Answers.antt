use native.Mathlib.Omega.{arith}
use Rattle.model.specs.Expansion.{expanded}
use Rattle.model.proofs.Rooms.{roomy}
use Rattle.expansion_count.specs.Growths.{old_table, new_sizes}
use Rattle.expansion_drain.proofs.Stores.{stored_written}
use Rattle.expansion_table.proofs.write_expanded.Goals as goal

pub write_tops-requires : goal.write_tops-requires
write_tops-requires c = (roomy _ c.requires.room).tops

pub write_intervals-requires : goal.write_intervals-requires
write_intervals-requires c =
    let r = roomy _ c.requires.room in
    let few = c.requires.bins_len_bound in
    record {
      ends = omega (arith, r.ends, few);
      blocks = omega (arith, r.blocks, few);
      adjustments = omega (arith, r.adjustments, few);
    }

pub returns-clause-written : goal.returns-clause-written
unfolding expanded
returns-clause-written c =
    let g = c.args.growth.now in
    let r = roomy _ c.requires.room in
    let few = c.requires.bins_len_bound in
    stored_written (expanded (old_table g) (new_sizes g)) c.args.new_tops.now _ c.write_tops.ensures
    c.write_intervals.ensures.stored
    (record {
      ends = omega (arith, r.ends, few);
      blocks = omega (arith, r.blocks, few);
      adjustments = omega (arith, r.adjustments, few);
    })
