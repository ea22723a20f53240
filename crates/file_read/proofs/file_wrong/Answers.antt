use Rattle.std.proofs.Common.{not, eqb, length, sym, ◌∙◌, ap}
use Rattle.model.specs.Refusal.{header_outside}
use Rattle.model.specs.Saved.{saved_length, file_wrong}
use Rattle.model.specs.declared.table.Header.{Header}
use Rattle.model.proofs.Rules.{or_first, or_last}
use Rattle.model.proofs.Loads.{file_short}
use Rattle.file_read.proofs.file_wrong.Goals as goal

pub returns-then-f-lt12 : goal.returns-then-f-lt12
returns-then-f-lt12 c = sym (file_short _ _ c.if-f-lt12.true)

pub returns-then-header_outside : goal.returns-then-header_outside
unfolding file_wrong
returns-then-header_outside c =
    sym
    (or_first _ _
    (ap header_outside (sym c.header_of-h.ensures) ∙ sym c.header_outside.ensures ∙ c.if-header_outside.true))

pub returns : goal.returns
unfolding file_wrong saved_length
returns c =
    ap (λ (h : Header). not (eqb (length c.args.f.now) (saved_length h.block_count h.interval_count))) c.header_of-h.ensures
    ∙ sym
    (or_last _ _
    (ap header_outside (sym c.header_of-h.ensures)
    ∙ sym c.header_outside.ensures
    ∙ c.if-header_outside.false))
