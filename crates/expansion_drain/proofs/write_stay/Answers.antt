use mathlib.Core.Path.{refl}
use native.Mathlib.Omega.{arith}
use Rattle.expansion_count.proofs.Parts.{made_stay, made_fresh}
use Rattle.expansion_drain.specs.Stored.{staying, interval_of}
use Rattle.expansion_drain.proofs.write_stay.Goals as goal

pub write_interval-requires : goal.write_interval-requires
write_interval-requires c =
    let alone = made_stay (staying c.args.moved) (interval_of c.args.interval) c.args.g c.args.left refl in
    rw (alone c.requires.block_lt_g.0 c.if-left-eq0.true) at c.requires.room

pub returns-then-left-eq0-clause-place : goal.returns-then-left-eq0-clause-place
returns-then-left-eq0-clause-place c =
    let alone = made_stay (staying c.args.moved) (interval_of c.args.interval) c.args.g c.args.left refl in
    rw (alone c.requires.block_lt_g.0 c.if-left-eq0.true) (omega arith)

pub returns-then-left-eq0-clause-stored : goal.returns-then-left-eq0-clause-stored
returns-then-left-eq0-clause-stored c =
    let alone = made_stay (staying c.args.moved) (interval_of c.args.interval) c.args.g c.args.left refl in
    rw (alone c.requires.block_lt_g.0 c.if-left-eq0.true) c.write_interval.ensures

pub write_two-requires : goal.write_two-requires
write_two-requires c =
    let fresh = made_fresh (staying c.args.moved) (interval_of c.args.interval) c.args.g c.args.left refl in
    rw (fresh c.requires.block_lt_g.0 c.if-left-eq0.false) at c.requires.room

pub returns-clause-place : goal.returns-clause-place
returns-clause-place c =
    let fresh = made_fresh (staying c.args.moved) (interval_of c.args.interval) c.args.g c.args.left refl in
    rw (fresh c.requires.block_lt_g.0 c.if-left-eq0.false) (omega arith)

pub returns-clause-stored : goal.returns-clause-stored
returns-clause-stored c =
    let fresh = made_fresh (staying c.args.moved) (interval_of c.args.interval) c.args.g c.args.left refl in
    rw (fresh c.requires.block_lt_g.0 c.if-left-eq0.false) c.write_two.ensures
