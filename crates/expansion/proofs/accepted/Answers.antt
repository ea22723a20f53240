use mathlib.Core.Path.{refl, sym, ◌∙◌}
use Rattle.model.specs.Table.{table}
use Rattle.expansion_count.specs.Growths.{old_table, new_sizes}
use Rattle.expansion.proofs.Grows.{not_full, grow_full, grow_accepted}
use Rattle.expansion.proofs.accepted.Goals as goal

pub returns-then-full : goal.returns-then-full
returns-then-full c = grow_full _ _ _ 0 (sym c.args.growth.now.grows.asked) refl (sym c.intervals_full-full.ensures ∙ c.if-full.true)

pub write_expanded-written-requires-clause-bins_len_bound : goal.write_expanded-written-requires-clause-bins_len_bound
write_expanded-written-requires-clause-bins_len_bound c = not_full _ _ (sym c.intervals_full-full.ensures ∙ c.if-full.false)

pub returns : goal.returns
unfolding table
returns c =
    let g = c.args.growth.now in
    let done = c.write_expanded-written.ensures in
    grow_accepted (old_table g) (new_sizes g) _ 0 (sym g.grows.asked) _ _ refl (sym c.intervals_full-full.ensures ∙ c.if-full.false) refl refl refl g.grows.counted
    done.counted.intervals done.counted.moved done.counted.least done.written
