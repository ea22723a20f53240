use mathlib.Core.Path.{refl}
use Rattle.std.proofs.lemmas.Result.{err_from_is_err_and}
use Rattle.model.proofs.Results.{number_some}
use Rattle.model.proofs.Checked.{checked}
use Rattle.irr.proofs.Answers.{sheet_refused, sheet_printed}
use Rattle.irr.proofs.results.sheet.Goals as goal

pub returns-in_err-check-clause-value : goal.returns-in_err-check-clause-value
returns-in_err-check-clause-value c =
    let p = err_from_is_err_and c.from_residual.result c.from_residual.ensures.1 in
    rw (p.1, p.2) ((sheet_refused _ _ _ c.in_err-check.ensures.refusal _ (number_some _)).0)

pub returns-in_err-check-clause-buffer_left : goal.returns-in_err-check-clause-buffer_left
returns-in_err-check-clause-buffer_left c = (sheet_refused _ _ _ c.in_err-check.ensures.refusal _ (number_some _)).1

pub printed-requires : goal.printed-requires
printed-requires c = record { adjustments = _; formed = checked _ _ 0 c.in_ok-check.ensures.refusal refl }

pub returns-clause-value : goal.returns-clause-value
returns-clause-value c =
    (sheet_printed _ _ _ _ _ 0 c.in_ok-check.ensures.refusal refl _ _ _ c.printed.ensures.reply c.printed.ensures.bytes).0

pub returns-clause-buffer_left : goal.returns-clause-buffer_left
returns-clause-buffer_left c =
    (sheet_printed _ _ _ _ _ 0 c.in_ok-check.ensures.refusal refl _ _ _ c.printed.ensures.reply c.printed.ensures.bytes).1
