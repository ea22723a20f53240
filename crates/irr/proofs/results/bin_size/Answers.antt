use mathlib.Core.Path.{refl, sym, ◌∙◌}
use native.Mathlib.Omega.{arith}
use Rattle.std.proofs.lemmas.Result.{err_from_is_err_and}
use Rattle.model.proofs.Results.{number_some}
use Rattle.model.proofs.Checked.{short_refused, checked}
use Rattle.irr.proofs.Answers.{size_refused, size_accepted}
use Rattle.irr.proofs.results.bin_size.Goals as goal

pub returns-then-arrays_short : goal.returns-then-arrays_short
returns-then-arrays_short c = size_refused _ _ 11 (short_refused _ _ (sym c.arrays_short.ensures ∙ c.if-arrays_short.true)) _ (λ z. omega arith)

pub returns-in_err-check : goal.returns-in_err-check
returns-in_err-check c =
    let p = err_from_is_err_and c.from_residual.result c.from_residual.ensures.1 in
    rw (p.1, p.2) (size_refused _ _ _ c.in_err-check.ensures.refusal _ (number_some _))

pub returns : goal.returns
returns c =
    c.sized.ensures _ _ _ (checked _ _ 0 c.in_ok-check.ensures.refusal refl) ∙ size_accepted _ _ 0 c.in_ok-check.ensures.refusal _ refl
