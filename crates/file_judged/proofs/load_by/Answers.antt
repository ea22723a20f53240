use Rattle.std.proofs.Common.{refl}
use Rattle.std.proofs.lemmas.Result.{err_from_is_err_and}
use Rattle.model.proofs.Tables.{length_from, taken}
use Rattle.file_judged.proofs.Passed.{loaded_refused, completed_judged}
use Rattle.file_judged.proofs.load_by.Goals as goal

pub complete-completed-requires : goal.complete-completed-requires
complete-completed-requires c = (taken _ _ _ _ c.read_numbers.ensures (length_from _ _ _), c.requires.interval_count_in_bounds)

pub returns-in_err-completed : goal.returns-in_err-completed
returns-in_err-completed c =
    let p = err_from_is_err_and c.from_residual.result c.from_residual.ensures.1 in
    rw (p.1, p.2) (loaded_refused _ _ _ c.requires.opened _ _ _ c.in_err-completed.ensures _)

pub load_judged-requires : goal.load_judged-requires
load_judged-requires c =
    completed_judged _ _ _ c.requires.opened _ _ _ c.in_ok-completed.ensures refl _
    (taken _ _ _ _ c.read_numbers.ensures (length_from _ _ _)) c.requires.interval_count_in_bounds
