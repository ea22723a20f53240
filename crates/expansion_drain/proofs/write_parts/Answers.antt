use native.Mathlib.Omega.{arith}
use Rattle.expansion_count.proofs.Parts.{made_move, made_split}
use Rattle.expansion_drain.specs.Stored.{interval_of}
use Rattle.expansion_drain.proofs.write_parts.Goals as goal

pub write_moved-requires : goal.write_moved-requires
write_moved-requires c =
    let moves = made_move c.args.plan (interval_of c.args.interval) c.args.g c.args.left _ c.in-Move.is in
    rw moves at c.requires.room

pub write_two-requires : goal.write_two-requires
write_two-requires c =
    let splits = made_split c.args.plan (interval_of c.args.interval) c.args.g c.args.left _ _ c.in-Split.is in
    rw splits at c.requires.room

pub returns-in-Move-clause-place : goal.returns-in-Move-clause-place
returns-in-Move-clause-place c =
    let moves = made_move c.args.plan (interval_of c.args.interval) c.args.g c.args.left _ c.in-Move.is in
    rw moves (omega arith)

pub returns-in-Move-clause-stored : goal.returns-in-Move-clause-stored
returns-in-Move-clause-stored c =
    let moves = made_move c.args.plan (interval_of c.args.interval) c.args.g c.args.left _ c.in-Move.is in
    rw moves c.write_moved.ensures

pub returns-in-Split-clause-place : goal.returns-in-Split-clause-place
returns-in-Split-clause-place c =
    let splits = made_split c.args.plan (interval_of c.args.interval) c.args.g c.args.left _ _ c.in-Split.is in
    rw splits (omega arith)

pub returns-in-Split-clause-stored : goal.returns-in-Split-clause-stored
returns-in-Split-clause-stored c =
    let splits = made_split c.args.plan (interval_of c.args.interval) c.args.g c.args.left _ _ c.in-Split.is in
    rw splits c.write_two.ensures
