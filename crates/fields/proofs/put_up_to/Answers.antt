use Rattle.std.proofs.Common.{refl}
use Rattle.model.proofs.Decimals.{decimal_one}
use Rattle.decimal.proofs.Pairs.{decimal_two}
use Rattle.fields.proofs.put_up_to.Goals as goal

pub returns-then-n-lt10 : goal.returns-then-n-lt10
returns-then-n-lt10 c = rw (decimal_one c.args.n c.if-n-lt10.true) refl

pub returns : goal.returns
returns c = rw (decimal_two c.args.n c.if-n-lt10.false c.requires.few) c.put_pair.ensures
