use mathlib.Core.Path.{sym, ◌∙◌}
use native.Mathlib.Omega.{arith}
use Rattle.std.proofs.lemmas.Result.{err_from_is_err_and}
use Rattle.model.specs.Calls.{size_tests, fresh_tests}
use Rattle.model.proofs.Refusals.{first_after}
use Rattle.model.proofs.Results.{refused_first}
use Rattle.model.proofs.Soundness.{allowed}
use Rattle.sizes.proofs.fresh_allowed.Goals as goal

pub returns-in_err-sizes_allowed : goal.returns-in_err-sizes_allowed
unfolding fresh_tests
returns-in_err-sizes_allowed c =
    let p = err_from_is_err_and c.from_residual.result c.from_residual.ensures.1 in
    rw (p.1, p.2) (refused_first _ _ _ (c.in_err-sizes_allowed.ensures))

pub capacity_allowed-requires : goal.capacity_allowed-requires
capacity_allowed-requires c = (allowed _ (sym (c.in_ok-sizes_allowed.ensures))).some_bins

pub returns : goal.returns
unfolding fresh_tests size_tests
returns c = c.capacity_allowed.ensures ∙ sym (first_after _ _ (omega arith) (sym (c.in_ok-sizes_allowed.ensures)))
