use Rattle.std.proofs.Common.{refl, sym, ◌∙◌, arith}
use Rattle.std.proofs.lemmas.Result.{err_from_is_err_and}
use Rattle.file_load.proofs.Replies.{counted, opened, file_refused, loaded_refused, loaded_accepted}
use Rattle.file_load.proofs.loaded.Goals as goal

pub returns-then-file_wrong : goal.returns-then-file_wrong
returns-then-file_wrong c =
    let r = file_refused _ _ _ (sym c.file_wrong.ensures ∙ c.if-file_wrong.true) in
    record { value = r.0; arrays_left = r.1 }

pub header_of-header-requires : goal.header_of-header-requires
header_of-header-requires c =
    let k = counted _ _ _ refl (sym c.file_wrong.ensures ∙ c.if-file_wrong.false) in omega arith

pub invariant_of-load_opened : goal.invariant_of-load_opened
invariant_of-load_opened c =
    record { counted = counted _ _ _ c.header_of-header.ensures (sym c.file_wrong.ensures ∙ c.if-file_wrong.false) }

pub load_opened-requires : goal.load_opened-requires
load_opened-requires c =
    opened _ _ _ _ c.header_of-header.ensures (sym c.file_wrong.ensures ∙ c.if-file_wrong.false) c.requires

pub returns-in_err-load_opened : goal.returns-in_err-load_opened
returns-in_err-load_opened c =
    let p = err_from_is_err_and c.from_residual.result c.from_residual.ensures.1 in
    let r = loaded_refused _ _ _ _ _ c.header_of-header.ensures _ c.in_err-load_opened.ensures in
    rw (p.1, p.2) (record { value = r.0; arrays_left = r.1 })

pub returns : goal.returns
returns c =
    let r = loaded_accepted _ _ _ _ _ c.header_of-header.ensures c.in_ok-load_opened.ensures in
    record { value = r.0; arrays_left = r.1 }
