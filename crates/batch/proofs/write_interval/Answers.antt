use Rattle.batch.proofs.Pairs.{placeable_later, placed_length, placed_both}
use Rattle.batch.proofs.write_interval.Goals as goal

pub write_ones-requires : goal.write_ones-requires
write_ones-requires c =
    let fours = c.write_fours-left.ensures in
    (placeable_later fours.on (placed_length fours) c.requires.0, fours.within)

pub returns : goal.returns
returns c = (placed_both c.write_fours-left.ensures c.write_ones.ensures.0, c.write_ones.ensures.1)
