use Rattle.std.proofs.Common.{sym, ◌∙◌, arith}
use Rattle.model.proofs.Tables.{get_d_from}
use Rattle.file_rules.proofs.File.block_at.Goals as goal

pub returns : goal.returns
returns c = c.number_at.ensures ∙ sym (get_d_from _ _ _ _ _ (omega arith))
