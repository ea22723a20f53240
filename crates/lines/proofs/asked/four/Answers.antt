use Rattle.std.proofs.Common.{arith}
use Rattle.lines.proofs.Bytes.{four_at, four_value}
use Rattle.lines.proofs.asked.four.Goals as goal

pub overflow_sub-digits : goal.overflow_sub-digits
overflow_sub-digits c =
    let f = four_at _ _ c.requires.0 c.requires.1 in
    omega (arith, c.from_le_bytes-digits.ensures, f.a, f.b, f.c, f.d)

pub overflow_mul-pairs : goal.overflow_mul-pairs
overflow_mul-pairs c =
    let f = four_at _ _ c.requires.0 c.requires.1 in
    omega (arith, c.from_le_bytes-digits.ensures, f.a, f.b, f.c, f.d)

pub overflow_add-pairs : goal.overflow_add-pairs
overflow_add-pairs c =
    let f = four_at _ _ c.requires.0 c.requires.1 in
    omega (arith, c.from_le_bytes-digits.ensures, f.a, f.b, f.c, f.d)

pub returns : goal.returns
returns c =
    let f = four_at _ _ c.requires.0 c.requires.1 in
    four_value f _ (omega (arith, c.from_le_bytes-digits.ensures))
