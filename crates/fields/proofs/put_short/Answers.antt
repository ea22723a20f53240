use Rattle.std.proofs.Common.{arith}
use Rattle.fields.proofs.Fields.{over_blanks, pair_before}
use Rattle.fields.proofs.put_short.Goals as goal

pub returns-then-n-lt100 : goal.returns-then-n-lt100
returns-then-n-lt100 c = over_blanks c.args.n c.args.at c.args.out.now _ _ c.put_blanks.ensures c.put_up_to.ensures

pub returns : goal.returns
returns c =
    over_blanks c.args.n c.args.at c.args.out.now _ _ c.put_blanks.ensures
    (pair_before c.args.n c.args.at _ _ _ c.if-n-lt100.false (omega arith) c.put_pair.ensures c.put_up_to-2.ensures)
