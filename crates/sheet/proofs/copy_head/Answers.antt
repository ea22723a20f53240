use Rattle.sheet.proofs.Parts.{head_stored}
use Rattle.sheet.proofs.copy_head.Goals as goal

pub returns : goal.returns
returns c = head_stored c.args.start c.args.end c.args.at c.args.out.now _ _ c.copy_field.ensures c.copy_field-2.ensures
