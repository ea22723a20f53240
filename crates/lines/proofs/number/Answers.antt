use Rattle.std.proofs.Common.{◌≡◌, ◌<◌, ◌≤◌, ◌∙◌, arith}
use Rattle.std.proofs.lemmas.Grind.{common_steps}
use Rattle.lines.proofs.Numbers.{digits_none, digits_large, digits_empty, digits_many, digits_end, not_number}
use Rattle.lines.proofs.Numbers.{item_within, item_more, item_wrong, item_ends, items_end}
use Rattle.lines.proofs.number.Goals as goal
use Rattle.lines.proofs.number.Goals.{else-loop-c-test, then-loop-c-test+then-c-eq32}

pub loop-c-init : goal.loop-c-init
loop-c-init c = record { at = omega arith; passed = digits_none 32 _ _ c.requires }

pub returns-then-not-is_ascii_digit : goal.returns-then-not-is_ascii_digit
returns-then-not-is_ascii_digit c =
    let inv = c.loop-c.invariant in
    not_number _ _
    (item_wrong inv.passed _ _ _ inv.at c.loop-c-test.true c.if-c-eq32.false
    (λ h k. omega (arith, h, k, c.if-not-is_ascii_digit.ensures.cases)))

pub returns-then-value-gt4294967295 : goal.returns-then-value-gt4294967295
returns-then-value-gt4294967295 c = digits_large c.loop-c.invariant.passed c.if-value-gt4294967295.true

pub overflow_add-end : goal.overflow_add-end
overflow_add-end c =
    let inv = c.loop-c.invariant in
    omega (arith, item_within inv.passed _ _ _ inv.at c.loop-c-test.true)

pub loop-c-preserved : goal.loop-c-preserved
loop-c-preserved c =
    let inv = c.loop-c.invariant in
    let digit = c.if-not-is_ascii_digit.ensures.cases in
    record {
      at = omega (arith, inv.at);
      passed = rw c.from.ensures
          (item_more inv.passed _ _ _ inv.at c.loop-c-test.true c.if-c-eq32.false (omega (arith, digit)) (omega (arith, digit))
          c.if-value-gt4294967295.false);
    }

pub returns-then-end-from : goal.returns-then-end-from
returns-then-end-from c =
    let inv = c.loop-c.invariant in
    digits_empty inv.passed
    (elim c.loop-c-test.branch [
      | else-loop-c-test w ↦ items_end inv.passed _ _ inv.at w.loop-c-test.false
      | then-loop-c-test+then-c-eq32 w ↦ item_ends inv.passed _ _ _ inv.at w.loop-c-test.true w.if-c-eq32.true
    ])
    c.if-end-from.true

pub overflow_sub-end : goal.overflow_sub-end
overflow_sub-end c = omega (arith, c.loop-c.invariant.at)

pub returns-then-end-from-gt10 : goal.returns-then-end-from-gt10
returns-then-end-from-gt10 c =
    let inv = c.loop-c.invariant in
    digits_many inv.passed
    (elim c.loop-c-test.branch [
      | else-loop-c-test w ↦ items_end inv.passed _ _ inv.at w.loop-c-test.false
      | then-loop-c-test+then-c-eq32 w ↦ item_ends inv.passed _ _ _ inv.at w.loop-c-test.true w.if-c-eq32.true
    ])
    c.if-end-from-gt10.true

pub returns-in_err-value : goal.returns-in_err-value
returns-in_err-value c =
    let large : 4_294_967_295 < c.loop-c.value = grind (arith, common_steps) in
    c.from_residual.ensures ∙ digits_large c.loop-c.invariant.passed large

pub returns : goal.returns
returns c =
    let inv = c.loop-c.invariant in
    let fits : c.loop-c.value ≤ 4_294_967_295 = grind (arith, common_steps) in
    let is : c.in_ok-value.value ≡ c.loop-c.value = grind (arith, common_steps) in
    rw is
    (digits_end inv.passed
    (elim c.loop-c-test.branch [
      | else-loop-c-test w ↦ items_end inv.passed _ _ inv.at w.loop-c-test.false
      | then-loop-c-test+then-c-eq32 w ↦ item_ends inv.passed _ _ _ inv.at w.loop-c-test.true w.if-c-eq32.true
    ])
    c.if-end-from.false c.if-end-from-gt10.false fits)
