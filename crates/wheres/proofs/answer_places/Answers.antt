use Rattle.std.proofs.Common.{arith, refl}
use Rattle.wheres.proofs.Placing.{asked_for, places_none, places_more}
use Rattle.wheres.proofs.answer_places.Goals as goal

pub loop-at-init : goal.loop-at-init
loop-at-init c = places_none _ _ _ _ _ c.requires.0 c.requires.1

pub where_at-requires : goal.where_at-requires
where_at-requires c = c.loop-at.invariant.within

pub overflow_add-line : goal.overflow_add-line
overflow_add-line c =
    let asks = asked_for c.where_at.ensures c.in-Some.is in omega (arith, c.well_formed, asks.within)

pub loop-at-smaller : goal.loop-at-smaller
loop-at-smaller c =
    let asks = asked_for c.where_at.ensures c.in-Some.is in omega (arith, asks.within, asks.ends)

pub loop-at-preserved : goal.loop-at-preserved
loop-at-preserved c =
    places_more c.loop-at.invariant (asked_for c.where_at.ensures c.in-Some.is) (omega arith)
    c.put_where-at.ensures.place c.put_where-at.ensures.bytes refl

pub returns-after-loop-at : goal.returns-after-loop-at
returns-after-loop-at c = c.loop-at.invariant

pub returns-in_default : goal.returns-in_default
returns-in_default c = c.loop-at.invariant
