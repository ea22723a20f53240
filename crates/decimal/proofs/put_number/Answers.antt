use Rattle.std.proofs.Common.{◌≡◌, ◌+◌, ◌-◌, ◌/◌, ◌∷◌, arith, length}
use Rattle.model.specs.Decimal.{decimal}
use Rattle.decimal.proofs.Pairs.{decimal_pair, decimal_eight}
use Rattle.decimal.proofs.Leading.{stored_more, stored_room}
use Rattle.decimal.proofs.put_number.Goals as goal

pub put_digits-requires-clause-room : goal.put_digits-requires-clause-room
put_digits-requires-clause-room c =
    let two = c.put_two-end.ensures in
    let end : c.put_two-end.result - 8 ≡ c.args.at + length (32 ∷ decimal (c.args.n / 100_000_000)) = omega (arith, two.place) in
    stored_room c.args.at _ _ 1 8 c.args.out.now _ (omega arith) (omega arith) c.requires end two.bytes

pub returns-then-n-ge100000000 : goal.returns-then-n-ge100000000
returns-then-n-ge100000000 c =
    let two = c.put_two-end.ensures in
    let end : c.put_two-end.result - 8 ≡ c.args.at + length (32 ∷ decimal (c.args.n / 100_000_000)) = omega (arith, two.place) in
    let all =
    stored_more c.args.at _ _ c.args.n c.args.out.now _ _ _ (decimal_eight c.args.n (omega arith) c.if-n-ge100000000.true) end two.bytes
    c.put_digits.ensures
    in
    record { place = omega (arith, all.0, two.place); bytes = all.1 }

pub put_pair-requires-clause-room : goal.put_pair-requires-clause-room
put_pair-requires-clause-room c =
    let four = c.put_four-end.ensures in
    let end : c.put_four-end.result - 2 ≡ c.args.at + length (32 ∷ decimal (c.args.n / 100)) = omega (arith, four.place) in
    stored_room c.args.at _ _ 3 2 c.args.out.now _ (omega arith) (omega arith) c.requires end four.bytes

pub returns-then-n-ge10000 : goal.returns-then-n-ge10000
returns-then-n-ge10000 c =
    let four = c.put_four-end.ensures in
    let end : c.put_four-end.result - 2 ≡ c.args.at + length (32 ∷ decimal (c.args.n / 100)) = omega (arith, four.place) in
    let all =
    stored_more c.args.at _ _ c.args.n c.args.out.now _ _ _ (decimal_pair c.args.n (omega arith) (omega arith)) end four.bytes
    c.put_pair.ensures
    in
    record { place = omega (arith, all.0, four.place); bytes = all.1 }
