use Rattle.std.proofs.Common.{arith, ap, ◌∙◌, ◌+◌, ◌-◌, ◌≡◌, take, drop}
use Rattle.model.specs.Decimal.{digits_only}
use Rattle.lines.proofs.Bytes.{passed_none, passed_more, passed_all}
use Rattle.lines.proofs.asked.eight_digits.Goals as goal

pub loop-c-init : goal.loop-c-init
loop-c-init c = passed_none _

pub loop-c-preserved : goal.loop-c-preserved
loop-c-preserved c = passed_more _ _ _ _ c.loop-c-test.true c.is_ascii_digit-all.ensures.value c.loop-c.invariant

pub returns : goal.returns
returns c =
    let eight : c.args.at + 8 - c.args.at ≡ 8 = omega arith in
    passed_all _ _ _ c.loop-c-test.false c.loop-c.invariant
    ∙ ap (λ n. digits_only (take n (drop c.args.at c.args.text.now))) eight
