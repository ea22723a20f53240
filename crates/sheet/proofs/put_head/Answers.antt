use Rattle.sheet.proofs.Parts.{head_stored}
use Rattle.sheet.proofs.put_head.Goals as goal

pub returns : goal.returns
returns c = head_stored c.args.start c.args.end c.args.at c.args.out.now _ _ c.put_field.ensures c.put_field-2.ensures
