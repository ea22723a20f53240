use Rattle.std.proofs.Common.{arith}
use Rattle.std.proofs.lemmas.Slice.{put_mid-paste}
use Rattle.streams.proofs.Logging.{some_length, logged_some}
use Rattle.streams.proofs.record.Goals as goal

pub returns : goal.returns
returns c =
    logged_some _ _ _ _ c.requires c.min-count.ensures
    (put_mid-paste _ _ _ _ _ c.min-count.result c.copy_from_slice.ensures.after (omega arith)
    (omega (arith, some_length _ _ _ _ c.requires c.min-count.ensures)))
