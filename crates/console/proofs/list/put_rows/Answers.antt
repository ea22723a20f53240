use Rattle.std.proofs.Common.{◌≡◌, arith, refl}
use Rattle.model.specs.Basics.{from, joined}
use Rattle.model.specs.Console.{move_text}
use Rattle.model.proofs.Entries.{put_none, put_length, put_more}
use Rattle.console.specs.Listing.{rows_in}
use Rattle.console.proofs.Rows.{row_at_lem, text_next, text_short}
use Rattle.console.proofs.list.put_rows.Goals as goal

pub loop-i-init : goal.loop-i-init
unfolding move_text rows_in from joined
loop-i-init c = put_none _ _

pub put_move-at-requires : goal.put_move-at-requires
put_move-at-requires c =
    omega (arith, c.loop-i.invariant.place, put_length c.loop-i.invariant, text_short c.args.rows.now c.loop-i.i)

pub loop-i-preserved : goal.loop-i-preserved
loop-i-preserved c =
    rw (text_next c.args.rows.now c.loop-i.i, row_at_lem c.args.rows.now c.loop-i.i _ refl)
    (put_more c.loop-i.invariant _ c.put_move-at.ensures.bytes c.put_move-at.ensures.place)

pub returns : goal.returns
returns c =
    let all : c.loop-i.i ≡ c.args.count = omega arith in
    let p = rw all at c.loop-i.invariant in
    record { place = omega (arith, p.place); bytes = p.holds }
