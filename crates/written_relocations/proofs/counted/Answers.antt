use mathlib.Core.Path.{sym, ◌∙◌}
use Rattle.std.proofs.lemmas.Result.{err_from_is_err_and}
use Rattle.model.specs.declared.refusal.Refusal.TheVariants as refusal
use Rattle.written_relocations.proofs.Replies.{bits_long, same_table, refused_told, by_table, by_growth, by_few, accepted_by}
use Rattle.written_relocations.proofs.counted.Goals as goal

pub returns-in_err-table : goal.returns-in_err-table
returns-in_err-table c =
    let p = err_from_is_err_and c.from_residual.result c.from_residual.ensures.1 in
    rw (p.1, p.2) (refused_told _ _ _ _ _ (by_table _ _ _ _ _ c.in_err-table.ensures.refusal))

pub returns-in_err-growth_allowed : goal.returns-in_err-growth_allowed
returns-in_err-growth_allowed c =
    let p = err_from_is_err_and c.from_residual-in_err-growth_allowed.result c.from_residual-in_err-growth_allowed.ensures.1 in
    rw (p.1, p.2)
    (refused_told _ _ _ _ _ (by_growth _ _ _ _ c.in_ok-table.ensures.refusal _ (c.in_err-growth_allowed.ensures _ _ _)))

pub returns-then-bits_short : goal.returns-then-bits_short
returns-then-bits_short c =
    refused_told _ _ _ _ refusal.BitsShort
    (by_few _ _ _ _ c.in_ok-table.ensures.refusal (c.in_ok-growth_allowed.ensures _ _ _) (sym c.bits_short.ensures ∙ c.if-bits_short.true))

pub written_moved-requires : goal.written_moved-requires
written_moved-requires c =
    let table = c.in_ok-table.ensures.table in
    record {
      bins_value = rw (same_table _ _ _ _ _ _ table) (sym (c.in_ok-growth_allowed.ensures _ _ _));
      buckets_bound = rw table.same_header (bits_long _ _ (sym c.bits_short.ensures ∙ c.if-bits_short.false));
    }

pub returns : goal.returns
returns c =
    accepted_by _ _ _ _ c.in_ok-table.ensures.refusal (c.in_ok-growth_allowed.ensures _ _ _)
    (sym c.bits_short.ensures ∙ c.if-bits_short.false) _
    (rw (same_table _ _ _ _ _ _ c.in_ok-table.ensures.table) at c.written_moved.ensures)
