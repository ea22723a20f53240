use mathlib.Core.Path.{sym, ◌∙◌}
use native.Mathlib.Omega.{arith}
use Rattle.model.specs.Table.{first_bin}
use Rattle.table.specs.Formed.{arrays_of}
use Rattle.lookup.proofs.Searches.{reached, place_at_lem, place_past_lem}
use Rattle.lookup.proofs.placed.Goals as goal

pub returns-in_default : goal.returns-in_default
returns-in_default c = sym (place_past_lem _ _ (sym c.locate.ensures ∙ c.in_default.is))

pub offset_bounds-table-interval : goal.offset_bounds-table-interval
offset_bounds-table-interval c =
    let f = reached _ (arrays_of c.args.table) c.args.table.formed _ _ (sym c.locate.ensures ∙ c.in-Some.is) in
    omega (arith, f.below, c.args.table.formed.interval_limit)

pub bounds-table-interval : goal.bounds-table-interval
bounds-table-interval c =
    let f = reached _ (arrays_of c.args.table) c.args.table.formed _ _ (sym c.locate.ensures ∙ c.in-Some.is) in
    omega (arith, f.below, c.args.table.formed.blocks_long)

pub place_in-requires : goal.place_in-requires
unfolding first_bin
place_in-requires c =
    let s = c.args.table.formed in
    let f = reached _ (arrays_of c.args.table) s _ _ (sym c.locate.ensures ∙ c.in-Some.is) in (
      omega (arith, f.block_below, s.tops_long),
      s.tops_rise _ f.block_below,
      omega (arith, f.inside, f.rank_most, s.bucket_limit),
    )

pub returns : goal.returns
returns c =
    let told = sym c.locate.ensures ∙ c.in-Some.is in
    rw c.place_in.ensures
    (sym (place_at_lem _ (arrays_of c.args.table) _ _ told (reached _ (arrays_of c.args.table) c.args.table.formed _ _ told)))
