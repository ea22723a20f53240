use native.Mathlib.Nat.{add-zero}
use native.Mathlib.Omega.{arith}
use Rattle.model.specs.Basics.{joined}
use Rattle.model.specs.Saved.{bytes_of}
use Rattle.model.proofs.Bytes.{bytes_next}
use Rattle.model.proofs.Entries.{put_none, put_more}
use Rattle.file_save.proofs.put_each.Goals as goal

pub loop-i-init : goal.loop-i-init
unfolding joined
loop-i-init c = rw add-zero (put_none _ _)

pub loop-i-preserved : goal.loop-i-preserved
unfolding bytes_of
loop-i-preserved c =
    let inside = c.loop-i-test.true in
    rw (bytes_next c.args.xs.now c.loop-i.i) (put_more c.loop-i.invariant _ c.put_number.ensures (omega arith))
