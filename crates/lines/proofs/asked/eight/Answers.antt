use Rattle.std.proofs.Common.{arith}
use Rattle.lines.proofs.Bytes.{eight_at}
use Rattle.lines.proofs.asked.eight.Goals as goal

pub four-requires : goal.four-requires
four-requires c = let e = eight_at _ _ c.requires.0 c.requires.1 in (omega arith, e.first)

pub overflow_mul-result : goal.overflow_mul-result
overflow_mul-result c = let e = eight_at _ _ c.requires.0 c.requires.1 in omega (arith, e.high, c.four.ensures)

pub four-requires-2 : goal.four-requires-2
four-requires-2 c = let e = eight_at _ _ c.requires.0 c.requires.1 in (omega arith, e.second)

pub overflow_add-result : goal.overflow_add-result
overflow_add-result c =
    let e = eight_at _ _ c.requires.0 c.requires.1 in
    omega (arith, e.high, e.low, c.four.ensures, c.four-2.ensures)

pub returns : goal.returns
returns c = let e = eight_at _ _ c.requires.0 c.requires.1 in omega (arith, e.is, c.four.ensures, c.four-2.ensures)
