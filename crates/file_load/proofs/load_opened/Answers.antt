use Rattle.file_load.proofs.Replies.{opened_alone}
use Rattle.file_load.proofs.load_opened.Goals as goal

pub load_alone-requires : goal.load_alone-requires
load_alone-requires c = opened_alone _ _ _ c.requires c.if-h-eq1-2.true c.if-h-eq1.true
