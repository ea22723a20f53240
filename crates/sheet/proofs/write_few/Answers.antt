use Prim.Native.Nat.{◌*◌}
use mathlib.Core.Path.{◌≡◌, refl, sym, ◌∙◌, ap}
use mathlib.Core.List.{[]}
use native.Mathlib.Omega.{arith}
use lib.ListN.{get_or}
use lib.Seq.{sets}
use Rattle.model.specs.Basics.{from, joined, before}
use Rattle.model.specs.Table.{arrays}
use Rattle.model.proofs.Entries.{put_none}
use Rattle.model.proofs.Rules.{before_next}
use Rattle.sheet.specs.Lines.{head_of}
use Rattle.sheet.proofs.Parts.{line_stored, sheet_stored, room_for, Room_after, head_ready, tail_ready, block_below_lem}
use Rattle.sheet.proofs.write_few.Goals as goal

pub loop-i-init : goal.loop-i-init
unfolding from joined before
loop-i-init c = record { start = refl; put = put_none _ _ }

pub put_head-requires : goal.put_head-requires
put_head-requires c =
    let ready = head_ready c.requires.formed c.loop-i.i c.loop-i-test.true in (
      omega (arith, ready.0, c.loop-i.invariant.start),
      ready.1,
      (room_for c.args.h.interval_count c.requires.room c.loop-i.i c.loop-i.invariant.put c.loop-i-test.true).0,
    )

pub put_tail-requires-clause-tops : goal.put_tail-requires-clause-tops
put_tail-requires-clause-tops c =
    tail_ready c.args.h _ c.requires.formed.formed _ (block_below_lem c.requires.formed c.loop-i.i c.loop-i-test.true)

pub put_tail-requires-clause-room : goal.put_tail-requires-clause-room
put_tail-requires-clause-room c =
    Room_after c.args.h.interval_count c.requires.room c.loop-i.i c.loop-i.invariant.put c.loop-i-test.true
    (51 * c.loop-i.i) (head_of c.loop-i.start (get_or c.args.ends.now c.loop-i.i 0)) c.put_head.ensures

pub loop-i-preserved : goal.loop-i-preserved
loop-i-preserved c =
    let a = arrays c.args.tops.now c.args.ends.now c.args.blocks.now [] in
    let i = c.loop-i.i in
    record {
      start = sym (before_next a.ends i);
      put =
          line_stored a i c.loop-i.invariant.put
          (c.put_head.ensures ∙ ap (λ s. sets c.loop-i.out (51 * i) (head_of s (get_or a.ends i 0))) c.loop-i.invariant.start)
          c.put_tail.ensures;
    }

pub returns : goal.returns
returns c =
    let all : c.loop-i.i ≡ c.args.h.interval_count = omega arith in
    sheet_stored c.args.h c.args.tops.now c.args.ends.now c.args.blocks.now c.requires.formed c.requires.room
    (rw all at c.loop-i.invariant.put)
