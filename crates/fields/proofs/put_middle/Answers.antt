use Rattle.std.proofs.Common.{arith}
use Rattle.model.proofs.Decimals.{decimal_exact}
use Rattle.fields.proofs.Fields.{covered, middle_field}
use Rattle.fields.proofs.put_middle.Goals as goal

pub returns-then-n-ge10000000 : goal.returns-then-n-ge10000000
unfolding covered
returns-then-n-ge10000000 c =
    middle_field 0 c.args.n c.args.at c.args.out.now _ c.requires.few
    (omega (arith, decimal_exact 7 c.args.n (omega arith) (omega arith) (omega arith)))
    c.put_digits.ensures

pub returns-then-n-ge1000000 : goal.returns-then-n-ge1000000
unfolding covered
returns-then-n-ge1000000 c =
    middle_field 1 c.args.n c.args.at c.args.out.now _ c.requires.few
    (omega (arith, decimal_exact 6 c.args.n (omega arith) (omega arith) (omega arith)))
    c.put_digits.ensures

pub returns-then-n-ge100000 : goal.returns-then-n-ge100000
unfolding covered
returns-then-n-ge100000 c =
    middle_field 2 c.args.n c.args.at c.args.out.now _ c.requires.few
    (omega (arith, decimal_exact 5 c.args.n (omega arith) (omega arith) (omega arith)))
    c.put_digits.ensures

pub returns : goal.returns
unfolding covered
returns c =
    middle_field 3 c.args.n c.args.at c.args.out.now _ c.requires.few
    (omega (arith, decimal_exact 4 c.args.n (omega arith) (omega arith) (omega arith)))
    c.put_digits.ensures
