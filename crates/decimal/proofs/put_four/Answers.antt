use Rattle.std.proofs.Common.{◌≡◌, ◌+◌, ◌-◌, ◌/◌, ◌∷◌, arith, length}
use Rattle.model.specs.Decimal.{decimal}
use Rattle.decimal.proofs.Pairs.{decimal_pair}
use Rattle.decimal.proofs.Leading.{stored_more, stored_room}
use Rattle.decimal.proofs.put_four.Goals as goal

pub put_pair-requires-clause-room : goal.put_pair-requires-clause-room
put_pair-requires-clause-room c =
    let two = c.put_two-end.ensures in
    let end : c.put_two-end.result - c.args.more - 2 ≡ c.args.at + length (32 ∷ decimal (c.args.n / 100)) = omega (arith, two.place) in
    stored_room c.args.at _ _ 1 2 c.args.out.now _ (omega arith) (omega arith) c.requires.room end two.bytes

pub returns : goal.returns
returns c =
    let two = c.put_two-end.ensures in
    let end : c.put_two-end.result - c.args.more - 2 ≡ c.args.at + length (32 ∷ decimal (c.args.n / 100)) = omega (arith, two.place) in
    let all =
    stored_more c.args.at _ _ c.args.n c.args.out.now _ _ _ (decimal_pair c.args.n (omega arith) c.requires.many) end two.bytes c.put_pair.ensures
    in
    record { place = omega (arith, all.0, two.place); bytes = all.1 }
