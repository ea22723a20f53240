use mathlib.Core.Path.{refl}
use native.Mathlib.Omega.{arith}
use Rattle.std.proofs.lemmas.Result.{err_from_is_err_and}
use Rattle.model.proofs.Results.{number_some}
use Rattle.expansion.proofs.Moves.{moves_refused, moves_past, moves_accepted}
use Rattle.expansion.proofs.relocated.Goals as goal

pub returns-in_err-growth_allowed : goal.returns-in_err-growth_allowed
returns-in_err-growth_allowed c =
    let p = err_from_is_err_and c.from_residual.result c.from_residual.ensures.1 in
    rw (p.1, p.2) (moves_refused _ _ _ _ _ (c.in_err-growth_allowed.ensures _ _ _) (number_some c.in_err-growth_allowed.field-0.0))

pub returns-then-total-first : goal.returns-then-total-first
returns-then-total-first c =
    let total = c.relocation_count-total.ensures _ _ _ c.args.table.formed in
    moves_past _ _ _ _ 0 (c.in_ok-growth_allowed.ensures _ _ _) refl (omega (arith, total, c.if-total-first.true))

pub returns : goal.returns
returns c =
    let total = c.relocation_count-total.ensures _ _ _ c.args.table.formed in
    let listed = c.write_relocations-written.ensures in
    moves_accepted _ _ _ _ 0 (c.in_ok-growth_allowed.ensures _ _ _) _ _ _ refl (omega (arith, total, c.if-total-first.false))
    listed.value total listed.rows_left
