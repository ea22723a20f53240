use Prim.Native.Nat.{◌+◌, ◌-◌, ◌*◌}
use mathlib.Core.Path.{◌≡◌, refl, sym, ◌∙◌, ap}
use mathlib.Core.List.{[]}
use native.Mathlib.Omega.{arith}
use lib.ListN.{length, get_or, take, drop}
use lib.Seq.{sets, length-sets}
use Rattle.model.specs.Basics.{from, joined, before}
use Rattle.model.specs.Table.{arrays}
use Rattle.model.proofs.Entries.{put_none}
use Rattle.model.proofs.Rules.{before_next}
use Rattle.fields.proofs.Copies.{pairs_held}
use Rattle.sheet.specs.Lines.{head_of, tail_of, spaced_tail}
use Rattle.sheet.proofs.Parts.{line_stored, sheet_stored, room_for, room_before, tail_at, head_length, head_last, head_ready, block_below_lem}
use Rattle.sheet.proofs.write_many.Goals as goal

pub loop-i-init : goal.loop-i-init
unfolding from joined before
loop-i-init c = record { start = refl; put = put_none _ _ }

pub copy_tail-requires : goal.copy_tail-requires
copy_tail-requires c =
    let block = block_below_lem c.requires.formed c.loop-i.i c.loop-i-test.true in (
      (tail_at c.args.tops.now _ _ _ _ c.write_tails.ensures (omega (arith, c.requires.formed.formed.block_limit)) block).1,
      room_before c.args.h.interval_count c.requires.room c.loop-i.i c.loop-i.invariant.put c.loop-i-test.true,
    )

pub copy_head-requires-clause-pairs : goal.copy_head-requires-clause-pairs
copy_head-requires-clause-pairs c = pairs_held _ _ (omega arith) c.put_pairs.ensures

pub copy_head-requires-clause-room : goal.copy_head-requires-clause-room
copy_head-requires-clause-room c =
    let i = c.loop-i.i in
    let ready = head_ready c.requires.formed i c.loop-i-test.true in
    let kept = ap length c.copy_tail.ensures ∙ length-sets c.loop-i.out (51 * i + 20 - 1)
    (take 32 (drop (32 * get_or c.args.blocks.now i 0) c.write_tails.new.out)) in (
      omega (arith, ready.0, c.loop-i.invariant.start),
      omega (arith, kept, (room_for c.args.h.interval_count c.requires.room i c.loop-i.invariant.put c.loop-i-test.true).0),
    )

pub loop-i-preserved : goal.loop-i-preserved
unfolding spaced_tail
loop-i-preserved c =
    let a = arrays c.args.tops.now c.args.ends.now c.args.blocks.now [] in
    let i = c.loop-i.i in
    let out = c.loop-i.out in
    let block = block_below_lem c.requires.formed i c.loop-i-test.true in
    let spaced = (tail_at a.tops _ _ _ _ c.write_tails.ensures (omega (arith, c.requires.formed.formed.block_limit)) block).0 in
    let tail = tail_of a.tops (get_or a.blocks i 0) in
    let head = head_of (before a.ends i) (get_or a.ends i 0) in
    record {
      start = sym (before_next a.ends i);
      put =
          line_stored a i {next = sets out (51 * i) head} c.loop-i.invariant.put refl
          (head_last out _ _ tail head (51 * i) 32 (head_length (before a.ends i) (get_or a.ends i 0))
          (c.copy_tail.ensures ∙ ap (sets out (51 * i + 20 - 1)) spaced)
          (c.copy_head.ensures
          ∙ ap (λ s. sets c.copy_tail.new.out (51 * i) (head_of s (get_or a.ends i 0))) c.loop-i.invariant.start));
    }

pub returns : goal.returns
returns c =
    let all : c.loop-i.i ≡ c.args.h.interval_count = omega arith in
    sheet_stored c.args.h c.args.tops.now c.args.ends.now c.args.blocks.now c.requires.formed c.requires.room
    (rw all at c.loop-i.invariant.put)
