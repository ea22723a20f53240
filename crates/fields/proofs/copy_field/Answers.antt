use Rattle.std.proofs.Common.{◌≤◌, ◌+◌, ◌≡◌, ℕ, List, ap, refl, arith, length}
use lib.Seq.{sets, length-sets}
use Rattle.model.specs.Sheet.{blanks}
use Rattle.model.proofs.Decimals.{decimal_one}
use Rattle.decimal.proofs.Pairs.{decimal_two}
use Rattle.fields.proofs.Fields.{over_blanks, ends_none, ends_room, ends_one, ends_two, ends_within, ends_length, ends_pair, ends_all}
use Rattle.fields.proofs.copy_field.Goals as goal

-- with blanks stored there is room for the digits
room : (at : ℕ) (old out : List ℕ) → at + 10 ≤ length old → out ≡ sets old at (blanks 10) → at + 10 ≤ length out
room at old out l e = omega (arith, ap length e, length-sets old at (blanks 10))

pub loop-rest-init : goal.loop-rest-init
loop-rest-init c = ends_none c.args.n (c.args.at + 10) _ _ refl

pub overflow_sub-end : goal.overflow_sub-end
overflow_sub-end c = ends_two c.loop-rest.invariant (omega arith) (omega arith)

pub copy_pair-requires-clause-room : goal.copy_pair-requires-clause-room
copy_pair-requires-clause-room c =
    let ends = c.loop-rest.invariant in
    let long = room c.args.at c.args.out.now _ c.requires.room c.put_blanks.ensures in
    omega (arith, ends_two ends (omega arith) (omega arith), ends_within ends, ends_length ends, long)

pub loop-rest-preserved : goal.loop-rest-preserved
loop-rest-preserved c =
    let ends = c.loop-rest.invariant in
    ends_pair ends _ c.loop-rest-test.true (omega arith) (ends_two ends (omega arith) (omega arith)) c.copy_pair.ensures

pub overflow_sub-out : goal.overflow_sub-out
overflow_sub-out c = ends_one c.loop-rest.invariant (omega arith)

pub bounds-out-end : goal.bounds-out-end
bounds-out-end c =
    let ends = c.loop-rest.invariant in
    let long = room c.args.at c.args.out.now _ c.requires.room c.put_blanks.ensures in
    omega (arith, ends_one ends (omega arith), ends_within ends, ends_length ends, long)

pub returns-then-rest-lt10 : goal.returns-then-rest-lt10
returns-then-rest-lt10 c =
    let ends = c.loop-rest.invariant in
    let one = decimal_one c.loop-rest.rest c.if-rest-lt10.true in
    over_blanks c.args.n c.args.at c.args.out.now _ _ c.put_blanks.ensures
    (ends_all ends _ (ends_room ends (omega arith)) (rw one refl))

pub overflow_sub-end-2 : goal.overflow_sub-end-2
overflow_sub-end-2 c = ends_two c.loop-rest.invariant (omega arith) c.if-rest-lt10.false

pub copy_pair-requires-2-clause-room : goal.copy_pair-requires-2-clause-room
copy_pair-requires-2-clause-room c =
    let ends = c.loop-rest.invariant in
    let long = room c.args.at c.args.out.now _ c.requires.room c.put_blanks.ensures in
    omega (arith, ends_two ends (omega arith) c.if-rest-lt10.false, ends_within ends, ends_length ends, long)

pub returns : goal.returns
returns c =
    let ends = c.loop-rest.invariant in
    let two = decimal_two c.loop-rest.rest c.if-rest-lt10.false (omega arith) in
    over_blanks c.args.n c.args.at c.args.out.now _ _ c.put_blanks.ensures
    (ends_all ends _ (ends_room ends (omega arith)) (rw two c.copy_pair-2.ensures))
