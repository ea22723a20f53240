use Rattle.model.specs.Basics.{from, joined}
use Rattle.model.proofs.Entries.{put_none}
use Rattle.model.proofs.Parts.{part_stored}
use Rattle.sheet.specs.Lines.{spaced_tail, tails_of}
use Rattle.sheet.proofs.Parts.{spaced_length, spaced_stored, tail_ready}
use Rattle.sheet.proofs.write_tails.Goals as goal

pub loop-j-init : goal.loop-j-init
unfolding tails_of from joined
loop-j-init c = put_none _ _

pub put_tail-requires-clause-tops : goal.put_tail-requires-clause-tops
put_tail-requires-clause-tops c = tail_ready c.args.h _ c.requires.tops.formed c.loop-j.j c.loop-j-test.true

pub loop-j-preserved : goal.loop-j-preserved
unfolding tails_of
loop-j-preserved c =
    part_stored (spaced_tail c.args.tops.now) 32 (spaced_length c.args.tops.now) c.loop-j.j c.loop-j.invariant
    (spaced_stored c.args.tops.now c.loop-j.j c.loop-j.out _ c.put_tail.ensures)
