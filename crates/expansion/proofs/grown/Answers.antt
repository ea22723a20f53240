use Rattle.std.proofs.lemmas.Result.{err_from_is_err_and}
use Rattle.model.proofs.Results.{number_some}
use Rattle.expansion.proofs.Grows.{grow_refused}
use Rattle.expansion.proofs.grown.Goals as goal

pub returns-in_err-growth_allowed : goal.returns-in_err-growth_allowed
returns-in_err-growth_allowed c =
    let p = err_from_is_err_and c.from_residual.result c.from_residual.ensures.1 in
    rw (p.1, p.2) (grow_refused _ _ _ _ (c.in_err-growth_allowed.ensures _ _ _) (number_some c.in_err-growth_allowed.field-0.0))
