use mathlib.Core.Path.{refl, ◌∙◌, ap}
use Rattle.std.proofs.lemmas.Result.{err_from_is_err_and}
use Rattle.model.specs.Search.{place_at}
use Rattle.model.proofs.Results.{number_some}
use Rattle.irr.proofs.Answers.{same_table, place_refused_lem, place_accepted}
use Rattle.irr.proofs.results.place.Goals as goal

pub returns-in_err-table : goal.returns-in_err-table
returns-in_err-table c =
    let p = err_from_is_err_and c.from_residual.result c.from_residual.ensures.1 in
    rw (p.1, p.2) (place_refused_lem _ _ _ c.in_err-table.ensures.refusal _ (number_some _))

pub returns : goal.returns
returns c =
    c.placed.ensures
    ∙ ap (λ t. place_at t c.args.bucket) (same_table c.in_ok-table.ensures.table)
    ∙ place_accepted _ _ 0 c.in_ok-table.ensures.refusal _ refl
