use mathlib.Core.Path.{refl, sym, ◌∙◌}
use Rattle.std.proofs.lemmas.Result.{err_from_is_err_and}
use Rattle.model.proofs.Results.{number_some}
use Rattle.expansion.proofs.Same.{grow_same}
use Rattle.irr.proofs.Answers.{same_table}
use Rattle.irr.proofs.Grows.{expand_short, expand_refused, expand_accepted}
use Rattle.irr.proofs.results.expand.Goals as goal

pub returns-then-room_short-clause-value : goal.returns-then-room_short-clause-value
returns-then-room_short-clause-value c = (expand_short _ _ _ _ (sym c.room_short.ensures ∙ c.if-room_short.true)).0

pub returns-then-room_short-clause-arrays_left : goal.returns-then-room_short-clause-arrays_left
returns-then-room_short-clause-arrays_left c = (expand_short _ _ _ _ (sym c.room_short.ensures ∙ c.if-room_short.true)).1

pub returns-in_err-table-clause-value : goal.returns-in_err-table-clause-value
returns-in_err-table-clause-value c =
    let p = err_from_is_err_and c.from_residual.result c.from_residual.ensures.1 in
    rw (p.1, p.2)
    ((expand_refused _ _ _ _ (sym c.room_short.ensures ∙ c.if-room_short.false) _ c.in_err-table.ensures.refusal (number_some _)).0)

pub returns-in_err-table-clause-arrays_left : goal.returns-in_err-table-clause-arrays_left
returns-in_err-table-clause-arrays_left c =
    (expand_refused _ _ _ _ (sym c.room_short.ensures ∙ c.if-room_short.false) _ c.in_err-table.ensures.refusal (number_some _)).1

pub returns-clause-value : goal.returns-clause-value
returns-clause-value c =
    (expand_accepted _ _ _ _ (sym c.room_short.ensures ∙ c.if-room_short.false) 0 c.in_ok-table.ensures.refusal _ _ refl
    (grow_same (same_table c.in_ok-table.ensures.table) c.grown.ensures)).0

pub returns-clause-arrays_left : goal.returns-clause-arrays_left
returns-clause-arrays_left c =
    (expand_accepted _ _ _ _ (sym c.room_short.ensures ∙ c.if-room_short.false) 0 c.in_ok-table.ensures.refusal _ _ refl
    (grow_same (same_table c.in_ok-table.ensures.table) c.grown.ensures)).1
