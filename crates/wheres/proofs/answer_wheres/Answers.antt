use Rattle.std.proofs.Common.{refl, sym, ◌∙◌}
use Rattle.wheres.proofs.Lines.{went_none}
use Rattle.wheres.proofs.Placing.{map_formed, map_shows, places_same}
use Rattle.wheres.proofs.answer_wheres.Goals as goal

pub returns-then-block-from : goal.returns-then-block-from
returns-then-block-from c = went_none _ _ _ _ _ c.args.program.now.sane c.requires.2 c.requires.1

pub returns-then-block-from-ne119 : goal.returns-then-block-from-ne119
returns-then-block-from-ne119 c = went_none _ _ _ _ _ c.args.program.now.sane c.requires.2 c.requires.1

pub returns-then-is_empty : goal.returns-then-is_empty
returns-then-is_empty c = went_none _ _ _ _ _ c.args.program.now.sane c.requires.2 c.requires.1

pub table-table-requires : goal.table-table-requires
table-table-requires c = map_formed _ _ _ c.args.program.now.sane (sym c.is_empty.ensures ∙ c.if-is_empty.false) c.map.ensures

pub answer_places-requires : goal.answer_places-requires
answer_places-requires c = (c.requires.1, c.requires.2)

pub returns : goal.returns
returns c =
    (places_same c.table-table.ensures c.answer_places.ensures).went _ _ refl
    (map_shows _ _ _ c.args.program.now.sane (sym c.is_empty.ensures ∙ c.if-is_empty.false) c.map.ensures c.requires.0)
