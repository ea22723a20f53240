use mathlib.Core.Path.{refl, ◌∙◌, ap}
use Rattle.std.proofs.lemmas.Result.{err_from_is_err_and}
use Rattle.model.specs.Refusal.{first}
use Rattle.model.specs.Calls.{find_answer, find_tests}
use Rattle.model.proofs.Results.{number_some}
use Rattle.irr.proofs.Answers.{same_table, find_refused_lem, find_accepted}
use Rattle.irr.proofs.results.find.Goals as goal

pub returns-in_err-table : goal.returns-in_err-table
returns-in_err-table c =
    let p = err_from_is_err_and c.from_residual.result c.from_residual.ensures.1 in
    rw (p.1, p.2) (find_refused_lem _ _ _ c.in_err-table.ensures.refusal _ _ (number_some _))

pub returns : goal.returns
returns c =
    c.found.ensures
    ∙ ap (λ t. find_answer (first (find_tests t c.args.bin c.args.position)) t c.args.bin c.args.position) (same_table c.in_ok-table.ensures.table)
    ∙ find_accepted _ _ 0 c.in_ok-table.ensures.refusal _ _ refl
