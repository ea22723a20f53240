use mathlib.Core.Path.{refl, sym, ◌∙◌}
use Rattle.std.proofs.lemmas.Result.{err_from_is_err_and}
use Rattle.model.proofs.Soundness.{sound_iff_lem}
use Rattle.mover_written.specs.Carry.{every}
use Rattle.mover_written.proofs.Replies.{by_table, by_growth, by_last, counts}
use Rattle.mover_written.proofs.tested.Goals as goal

pub returns-in_err-table-clause-refusal : goal.returns-in_err-table-clause-refusal
returns-in_err-table-clause-refusal c =
    let p = err_from_is_err_and c.from_residual.result c.from_residual.ensures.1 in
    rw (p.1, p.2) (by_table _ _ _ _ _ c.in_err-table.ensures.refusal)

pub returns-in_err-growth_allowed-clause-refusal : goal.returns-in_err-growth_allowed-clause-refusal
returns-in_err-growth_allowed-clause-refusal c =
    let p = err_from_is_err_and c.from_residual-in_err-growth_allowed.result c.from_residual-in_err-growth_allowed.ensures.1 in
    rw (p.1, p.2) (by_growth _ _ _ _ c.in_ok-table.ensures.refusal _ (c.in_err-growth_allowed.ensures _ _ _))

pub returns-in_err-last_allowed-clause-refusal : goal.returns-in_err-last_allowed-clause-refusal
returns-in_err-last_allowed-clause-refusal c =
    let p = err_from_is_err_and c.from_residual-in_err-last_allowed.result c.from_residual-in_err-last_allowed.ensures.1 in
    let tests = c.in_ok-table.ensures.refusal in
    rw (p.1, p.2)
    (c.in_err-last_allowed.ensures
    ∙ by_last _ _ _ _ tests (c.in_ok-growth_allowed.ensures _ _ _) _
    (c.relocation_count-total.ensures _ _ _ ((sound_iff_lem _ _).0 (sym tests)).formed) _ _ c.word_at.ensures
    (c.told_few-few.ensures _ refl))

pub returns-clause-refusal : goal.returns-clause-refusal
returns-clause-refusal c =
    let tests = c.in_ok-table.ensures.refusal in
    c.in_ok-last_allowed.ensures
    ∙ by_last _ _ _ _ tests (c.in_ok-growth_allowed.ensures _ _ _) _
    (c.relocation_count-total.ensures _ _ _ ((sound_iff_lem _ _).0 (sym tests)).formed) _ _ c.word_at.ensures
    (c.told_few-few.ensures _ refl)

pub returns-clause-total : goal.returns-clause-total
returns-clause-total c =
    let tests = c.in_ok-table.ensures.refusal in
    counts _ every c.args.words.now c.args.mark tests (c.in_ok-growth_allowed.ensures _ _ _) _
    (c.relocation_count-total.ensures _ _ _ ((sound_iff_lem _ _).0 (sym tests)).formed)
