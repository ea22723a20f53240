use mathlib.Core.Path.{sym, ◌∙◌}
use native.Mathlib.Omega.{arith}
use Rattle.std.proofs.lemmas.Result.{err_from_is_err_and}
use Rattle.model.specs.Table.{arrays, sizes}
use Rattle.mover.specs.Carry.{growth}
use Rattle.mover.proofs.Spots.{accepted_ready, total_most}
use Rattle.mover.proofs.Replies.{same_growth, refused_told, reply_more, reply_end, words_copied, words_end}
use Rattle.mover.proofs.carried.Goals as goal

pub returns-in_err-table-clause-value : goal.returns-in_err-table-clause-value
returns-in_err-table-clause-value c =
    let p = err_from_is_err_and c.from_residual.result c.from_residual.ensures.1 in
    rw (p.1, p.2) (refused_told _ _ _ _ c.in_err-table.ensures.refusal).0

pub returns-in_err-table-clause-words_left : goal.returns-in_err-table-clause-words_left
returns-in_err-table-clause-words_left c = (refused_told _ _ _ _ c.in_err-table.ensures.refusal).1

pub returns-then-total-mark-clause-value : goal.returns-then-total-mark-clause-value
returns-then-total-mark-clause-value c =
    sym (reply_end _ _ _ (sym c.in_ok-table.ensures.refusal) (omega (arith, c.in_ok-table.ensures.total, c.if-total-mark.true)))

pub returns-then-total-mark-clause-words_left : goal.returns-then-total-mark-clause-words_left
returns-then-total-mark-clause-words_left c =
    sym (words_end _ _ _ (sym c.in_ok-table.ensures.refusal) (omega (arith, c.in_ok-table.ensures.total, c.if-total-mark.true)))

pub carry_row-requires-clause-ready : goal.carry_row-requires-clause-ready
carry_row-requires-clause-ready c =
    let same = same_growth _ _ _ _ _ (sizes c.args.buckets c.args.bins) _ c.in_ok-table.ensures.table in
    rw same (accepted_ready _ _ _ (sym c.in_ok-table.ensures.refusal)).0

pub carry_row-requires-clause-order_bound : goal.carry_row-requires-clause-order_bound
carry_row-requires-clause-order_bound c =
    let same = same_growth _ _ _ _ _ (sizes c.args.buckets c.args.bins) _ c.in_ok-table.ensures.table in
    let within = (accepted_ready _ _ _ (sym c.in_ok-table.ensures.refusal)).1 in
    let other = c.if-total-mark.false in
    rw same (omega (arith, c.in_ok-table.ensures.total))

pub overflow_add-result : goal.overflow_add-result
overflow_add-result c =
    let (ready, within) = accepted_ready _ _ _ (sym c.in_ok-table.ensures.refusal) in
    omega (arith, within, total_most (growth c.args.header (arrays c.args.tops.now c.args.ends.now c.args.blocks.now c.args.adjustments.now) (sizes c.args.buckets c.args.bins)), ready.sound.formed.bucket_limit)

pub returns-clause-value : goal.returns-clause-value
returns-clause-value c =
    let within = (accepted_ready _ _ _ (sym c.in_ok-table.ensures.refusal)).1 in
    let other = c.if-total-mark.false in
    sym (reply_more _ _ _ (sym c.in_ok-table.ensures.refusal) (omega (arith, c.in_ok-table.ensures.total)))

pub returns-clause-words_left : goal.returns-clause-words_left
returns-clause-words_left c =
    let same = same_growth _ _ _ _ _ (sizes c.args.buckets c.args.bins) _ c.in_ok-table.ensures.table in
    let within = (accepted_ready _ _ _ (sym c.in_ok-table.ensures.refusal)).1 in
    let other = c.if-total-mark.false in
    (rw same at c.carry_row.ensures)
    ∙ sym (words_copied _ _ _ (sym c.in_ok-table.ensures.refusal) (omega (arith, c.in_ok-table.ensures.total)))
