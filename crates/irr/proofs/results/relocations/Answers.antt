use mathlib.Core.Path.{refl}
use Rattle.std.proofs.lemmas.Result.{err_from_is_err_and}
use Rattle.model.proofs.Results.{number_some}
use Rattle.expansion.proofs.Same.{moves_same}
use Rattle.irr.proofs.Answers.{same_table}
use Rattle.irr.proofs.Moves.{list_refused, list_accepted}
use Rattle.irr.proofs.results.relocations.Goals as goal

pub returns-in_err-table-clause-value : goal.returns-in_err-table-clause-value
returns-in_err-table-clause-value c =
    let p = err_from_is_err_and c.from_residual.result c.from_residual.ensures.1 in
    rw (p.1, p.2) ((list_refused _ _ _ c.in_err-table.ensures.refusal _ _ _ (number_some _)).0)

pub returns-in_err-table-clause-rows_left : goal.returns-in_err-table-clause-rows_left
returns-in_err-table-clause-rows_left c = (list_refused _ _ _ c.in_err-table.ensures.refusal _ _ _ (number_some _)).1

pub returns-clause-value : goal.returns-clause-value
returns-clause-value c =
    (list_accepted _ _ 0 c.in_ok-table.ensures.refusal _ _ _ _ _ refl
    (moves_same (same_table c.in_ok-table.ensures.table) c.relocated.ensures)).0

pub returns-clause-rows_left : goal.returns-clause-rows_left
returns-clause-rows_left c =
    (list_accepted _ _ 0 c.in_ok-table.ensures.refusal _ _ _ _ _ refl
    (moves_same (same_table c.in_ok-table.ensures.table) c.relocated.ensures)).1
