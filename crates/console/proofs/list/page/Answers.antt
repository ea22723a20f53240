use Rattle.std.proofs.Common.{arith, refl}
use Rattle.session.specs.Maps.{sizes_of}
use Rattle.console.proofs.Rows.{moves_room, moves_listed, page_reply}
use Rattle.console.proofs.list.page.Goals as goal

pub put_rows-length-requires : goal.put_rows-length-requires
put_rows-length-requires c =
    moves_room _ _ _ _ _ _ (page_reply c.table.ensures c.from-reply.ensures c.relocated.ensures) c.args.out.now c.requires.formed.1

pub returns : goal.returns
unfolding sizes_of
returns c =
    let text = c.put_rows-length.ensures in
    moves_listed _ _ _ _ _ _ (page_reply c.table.ensures c.from-reply.ensures c.relocated.ensures) _ c.requires.growth refl
    _ _ _ _ _ c.requires.formed.1 text.place text.bytes (omega arith) (omega arith)
