use Rattle.file_judged.proofs.Passed.{judged_tops, judged_refused, judged_accepted}
use Rattle.file_judged.proofs.load_judged.Goals as goal

pub capacity_wrong-requires : goal.capacity_wrong-requires
capacity_wrong-requires c = judged_tops _ _ _ _ _ c.requires

pub returns-then-capacity_wrong : goal.returns-then-capacity_wrong
returns-then-capacity_wrong c =
    judged_refused _ _ _ _ _ c.requires _ c.capacity_wrong.ensures c.if-capacity_wrong.true _

pub write_out-requires : goal.write_out-requires
write_out-requires c = record { opened = c.requires.opened; interval_count_in_bounds = c.requires.long }

pub returns : goal.returns
returns c =
    judged_accepted _ _ _ _ _ c.requires _ c.capacity_wrong.ensures c.if-capacity_wrong.false _ _ c.write_out.ensures
