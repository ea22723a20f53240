use Rattle.row_places.proofs.Walk.{walk_starts, walk_ends, walk_bounds, walk_found, walk_next}
use Rattle.row_places.proofs.bucket_at.Goals as goal

pub loop-i-init : goal.loop-i-init
loop-i-init c s d = walk_starts _ _ _ _ _ d

pub cut-first-requires : goal.cut-first-requires
cut-first-requires c =
    let d = c.requires.1 in
    let bounds = walk_bounds _ _ _ _ _ d _ _ _ (c.loop-i.invariant _ d) c.loop-i-test.true in
    (bounds.0, bounds.1)

pub returns-then-left-end : goal.returns-then-left-end
returns-then-left-end c s d =
    let t = c.args.table in
    let first = c.cut-first.ensures in
    rw first
    (walk_found _ _ _ _ _ d _ _ _ (c.loop-i.invariant s d) c.loop-i-test.true (rw first at c.if-left-end.true))

pub loop-i-preserved : goal.loop-i-preserved
loop-i-preserved c s d =
    let first = c.cut-first.ensures in
    rw first
    (walk_next _ _ _ _ _ d _ _ _ (c.loop-i.invariant s d) c.loop-i-test.true (rw first at c.if-left-end.false))

pub unreachable-requires : goal.unreachable-requires
unreachable-requires c =
    let d = c.requires.1 in
    walk_ends _ _ _ _ _ d _ _ _ (c.loop-i.invariant _ d) c.loop-i-test.false
