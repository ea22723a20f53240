use Rattle.std.proofs.Common.{◌≡◌, ◌+◌, ◌-◌, arith}
use Rattle.decimal.proofs.Leading.{most, two_done}
use Rattle.decimal.proofs.put_two.Goals as goal

pub returns : goal.returns
returns c =
    let r = c.from.result in
    let few = most c.args.n 10 r c.from.ensures in
    let end : c.args.at + (3 + c.args.more - r) - c.args.more ≡ c.args.at + (3 - r) = omega (arith, few) in
    let done = two_done c.args.n c.args.at r _ c.args.out.now _ c.requires.few.0 c.from.ensures end c.put_pair.ensures in
    record { place = omega (arith, done.0, end, few); bytes = done.1 }
