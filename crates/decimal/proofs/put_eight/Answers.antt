use Rattle.std.proofs.Common.{refl}
use Rattle.decimal.proofs.Leading.{eight_done}
use Rattle.decimal.proofs.put_eight.Goals as goal

pub returns : goal.returns
returns c =
    let done = eight_done c.args.n c.args.at _ _ c.args.out.now _ c.requires.many c.requires.few c.from.ensures refl c.put_digits.ensures in
    record { place = done.0; bytes = done.1 }
