use Rattle.std.proofs.Common.{refl}
use Rattle.model.proofs.Results.{number_some}
use Rattle.console.proofs.Wheres.{where_refused, where_told, where_said}
use Rattle.console.proofs.step.put_where.Goals as goal

pub returns-in-Ok-clause-place : goal.returns-in-Ok-clause-place
returns-in-Ok-clause-place c =
    (where_said _ _ _ _ _ _ _ (where_told _ _ _ c.in-Ok.ensures refl) c.put_place.ensures.place c.put_place.ensures.bytes).0

pub returns-in-Ok-clause-bytes : goal.returns-in-Ok-clause-bytes
returns-in-Ok-clause-bytes c =
    (where_said _ _ _ _ _ _ _ (where_told _ _ _ c.in-Ok.ensures refl) c.put_place.ensures.place c.put_place.ensures.bytes).1

pub returns-in-Err-clause-place : goal.returns-in-Err-clause-place
returns-in-Err-clause-place c =
    let told = rw (← c.number.ensures) at (where_refused _ _ _ c.in-Err.ensures (number_some _)) in
    (where_said _ _ _ _ _ _ _ told c.put_refused.ensures.place c.put_refused.ensures.bytes).0

pub returns-in-Err-clause-bytes : goal.returns-in-Err-clause-bytes
returns-in-Err-clause-bytes c =
    let told = rw (← c.number.ensures) at (where_refused _ _ _ c.in-Err.ensures (number_some _)) in
    (where_said _ _ _ _ _ _ _ told c.put_refused.ensures.place c.put_refused.ensures.bytes).1
