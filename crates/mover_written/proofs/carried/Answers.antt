use Prim.Native.Nat.{◌<◌}
use mathlib.Core.Path.{◌≡◌, sym, ◌∙◌, subst}
use native.Mathlib.Omega.{arith}
use lib.ListN.{length}
use borrow.Author.Tests.{not-true, not-false}
use Rattle.std.proofs.lemmas.Result.{err_from_is_err_and}
use Rattle.model.specs.Table.{arrays, sizes}
use Rattle.model.specs.Refusal.{first}
use Rattle.model.specs.Calls.{growth_tests, rows_of}
use Rattle.mover_written.specs.Carry.{Growth, growth, old_table, total}
use Rattle.mover_written.proofs.Spots.{accepted_ready, total_most}
use Rattle.mover_written.proofs.Replies.{same_growth, refused_told, reply_more, reply_end, words_end}
use Rattle.mover_written.proofs.Steps.{row_below, same_row, row_bit, row_within, row_copied, row_blank}
use Rattle.mover_written.proofs.carried.Goals.{then-not-is_blank, else-not-is_blank}
use Rattle.mover_written.proofs.carried.Goals as goal

pub returns-in_err-table-clause-value : goal.returns-in_err-table-clause-value
returns-in_err-table-clause-value c =
    let p = err_from_is_err_and c.from_residual.result c.from_residual.ensures.1 in
    rw (p.1, p.2) (refused_told _ _ _ _ _ c.in_err-table.ensures.refusal).0

pub returns-in_err-table-clause-words_left : goal.returns-in_err-table-clause-words_left
returns-in_err-table-clause-words_left c = (refused_told _ _ _ _ _ c.in_err-table.ensures.refusal).1

pub returns-then-total-mark-clause-value : goal.returns-then-total-mark-clause-value
returns-then-total-mark-clause-value c =
    sym (reply_end _ _ _ _ (sym c.in_ok-table.ensures.refusal) (omega (arith, c.in_ok-table.ensures.total, c.if-total-mark.true)))

pub returns-then-total-mark-clause-words_left : goal.returns-then-total-mark-clause-words_left
returns-then-total-mark-clause-words_left c =
    sym (words_end _ _ _ _ (sym c.in_ok-table.ensures.refusal) (omega (arith, c.in_ok-table.ensures.total, c.if-total-mark.true)))

pub row_of-row-requires-clause-bins_value : goal.row_of-row-requires-clause-bins_value
row_of-row-requires-clause-bins_value c =
    subst (λ (g : Growth). first (growth_tests (old_table g) g.sizes) ≡ 0)
    (sym (same_growth _ _ _ _ _ (sizes c.args.buckets c.args.bins) _ c.in_ok-table.ensures.table))
    (accepted_ready _ _ _ _ (sym c.in_ok-table.ensures.refusal)).0.asked

pub row_of-row-requires-clause-order_in_bounds : goal.row_of-row-requires-clause-order_in_bounds
unfolding total
row_of-row-requires-clause-order_in_bounds c =
    subst (λ (g : Growth). c.args.mark < length (rows_of g.header g.arrays g.sizes))
    (sym (same_growth _ _ _ _ _ (sizes c.args.buckets c.args.bins) _ c.in_ok-table.ensures.table))
    (row_below _ _ _ _ (sym c.in_ok-table.ensures.refusal) _ c.in_ok-table.ensures.total c.if-total-mark.false)

pub is_blank-requires : goal.is_blank-requires
is_blank-requires c =
    let ok = sym c.in_ok-table.ensures.refusal in
    row_bit _ _ _ _ ok (row_below _ _ _ _ ok _ c.in_ok-table.ensures.total c.if-total-mark.false) _
    (same_row _ _ _ _ _ _ _ c.in_ok-table.ensures.table _ _ c.row_of-row.ensures)

pub copy_row-requires : goal.copy_row-requires
copy_row-requires c =
    let ok = sym c.in_ok-table.ensures.refusal in
    row_within _ _ _ _ ok (row_below _ _ _ _ ok _ c.in_ok-table.ensures.total c.if-total-mark.false) _
    (same_row _ _ _ _ _ _ _ c.in_ok-table.ensures.table _ _ c.row_of-row.ensures)

pub overflow_add-result : goal.overflow_add-result
overflow_add-result c =
    let (ready, _, within) = accepted_ready _ _ _ _ (sym c.in_ok-table.ensures.refusal) in
    omega (
      arith,
      within,
      total_most
          (growth c.args.header (arrays c.args.tops.now c.args.ends.now c.args.blocks.now c.args.adjustments.now)
          (sizes c.args.buckets c.args.bins)),
      ready.sound.formed.bucket_limit,
    )

pub returns-clause-value : goal.returns-clause-value
returns-clause-value c =
    let ok = sym c.in_ok-table.ensures.refusal in
    sym (reply_more _ _ _ _ ok (row_below _ _ _ _ ok _ c.in_ok-table.ensures.total c.if-total-mark.false))

pub returns-clause-words_left : goal.returns-clause-words_left
returns-clause-words_left c =
    let ok = sym c.in_ok-table.ensures.refusal in
    let below = row_below _ _ _ _ ok _ c.in_ok-table.ensures.total c.if-total-mark.false in
    let row = same_row _ _ _ _ _ _ _ c.in_ok-table.ensures.table _ _ c.row_of-row.ensures in
    elim c.if-not-is_blank.branch [
      | then-not-is_blank w ↦
          w.words-is
          ∙ row_copied _ _ _ _ ok below _ row _ w.copy_row.ensures
          (not-false _ (sym c.is_blank.ensures ∙ w.if-not-is_blank.true))
      | else-not-is_blank w ↦
          w.words-is ∙ row_blank _ _ _ _ ok below _ row (not-true _ (sym c.is_blank.ensures ∙ w.if-not-is_blank.false))
    ]
