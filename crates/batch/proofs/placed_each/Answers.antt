use mathlib.Core.Path.{refl, sym, ◌∙◌}
use Prim.Native.Nat.{◌-◌}
use native.Mathlib.Omega.{arith}
use lib.ListN.{length}
use Rattle.model.specs.Basics.{if◌then◌otherwise◌}
use Rattle.model.specs.Table.{table}
use Rattle.model.specs.Calls.{answer}
use Rattle.table.specs.Formed.{table_of}
use Rattle.batch.proofs.Tests.{none_asked, falls_refused, last_refused, last_passes, all_inside}
use Rattle.batch.proofs.placed_each.Goals as goal

pub returns-in_default-clause-value : goal.returns-in_default-clause-value
returns-in_default-clause-value c = (none_asked _ _ c.args.out.now (omega arith)).0

pub returns-in_default-clause-out_left : goal.returns-in_default-clause-out_left
returns-in_default-clause-out_left c = (none_asked _ _ _ (omega arith)).1

pub returns-then-falls-clause-value : goal.returns-then-falls-clause-value
returns-then-falls-clause-value c = falls_refused _ _ (sym c.falls.ensures ∙ c.if-falls.true)

pub returns-then-falls-clause-out_left : goal.returns-then-falls-clause-out_left
unfolding answer if◌then◌otherwise◌
returns-then-falls-clause-out_left c = refl

pub returns-then-table-last-clause-value : goal.returns-then-table-last-clause-value
unfolding table
returns-then-table-last-clause-value c =
    last_refused _ _ (length c.args.buckets.now - 1) (omega arith) (sym c.falls.ensures ∙ c.if-falls.false) c.if-table-last.true

pub returns-then-table-last-clause-out_left : goal.returns-then-table-last-clause-out_left
unfolding answer if◌then◌otherwise◌
returns-then-table-last-clause-out_left c = refl

pub write_places-requires-clause-buckets_value : goal.write_places-requires-clause-buckets_value
unfolding table
write_places-requires-clause-buckets_value c =
    let rise = sym c.falls.ensures ∙ c.if-falls.false in
    (rise, all_inside (table_of c.args.table) _ (length c.args.buckets.now - 1) (omega arith) rise c.if-table-last.false)

pub returns-clause-value : goal.returns-clause-value
unfolding table
returns-clause-value c =
    last_passes _ _ (length c.args.buckets.now - 1) (omega arith) (sym c.falls.ensures ∙ c.if-falls.false) c.if-table-last.false

pub returns-clause-out_left : goal.returns-clause-out_left
unfolding answer if◌then◌otherwise◌
returns-clause-out_left c = c.write_places.ensures
