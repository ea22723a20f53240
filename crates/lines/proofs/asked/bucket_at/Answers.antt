use Rattle.std.proofs.Common.{◌≡◌, ℕ, ◌<◌, ◌≤◌, ◌+◌, ◌-◌, ◌∙◌, sym, arith, List, length, take, drop, length-take, length-drop}
use Rattle.std.proofs.lemmas.Grind.{common_steps}
use Rattle.lines.specs.Words.{by_asked}
use Rattle.lines.proofs.Spans.{none_at}
use Rattle.lines.proofs.Numbers.{not_digit, too_large, too_many, none_there, item_at, item_within, item_more}
use Rattle.lines.proofs.Asking.{eight_passed, none_passed, digits_to}
use Rattle.lines.proofs.asked.bucket_at.Goals as goal
use Rattle.lines.proofs.asked.bucket_at.Goals.{then-eight_digits, else-eight_digits}
use Rattle.lines.proofs.asked.bucket_at.Goals.{else-loop-c-test, then-loop-c-test+then-not-is_ascii_digit, then-loop-c-test+else-not-is_ascii_digit+then-value-gt4294967295}

-- the place behind i bytes from place `start` on
behind
    : (l : List ℕ) (first start i end : ℕ) → first + 10 < length l → start ≤ first + 10 → end ≡ start + i
    → i ≤ length (take (first + 10 - start) (drop start l)) → end ≤ first + 10
behind l first start i end h k at few =
    omega (arith, length-take (first + 10 - start) (drop start l), length-drop start l)

pub loop-c-init : goal.loop-c-init
loop-c-init c =
    elim c.if-eight_digits.branch [
      | then-eight_digits w ↦ record {
        at = omega arith;
        near = omega (arith, w.end-is);
        passed = eight_passed _ _ _ _ _ (omega arith) (sym c.eight_digits.ensures ∙ w.if-eight_digits.true) w.eight.ensures (omega (arith, w.eight)) (omega (arith, w.value-is, w.from-value.ensures)) w.end-is;
      }
      | else-eight_digits w ↦ record {
        at = omega arith;
        near = omega (arith, w.end-is);
        passed = none_passed _ _ _ _ (omega arith) w.value-is w.end-is;
      }
    ]

pub overflow_add-end-in-loop-c : goal.overflow_add-end-in-loop-c
overflow_add-end-in-loop-c c =
    let inv = c.loop-c.invariant in
    omega (arith, item_within inv.passed _ _ _ inv.at c.loop-c-test.true)

pub loop-c-preserved : goal.loop-c-preserved
loop-c-preserved c =
    let inv = c.loop-c.invariant in
    let digit = c.if-not-is_ascii_digit.ensures.cases in
    record {
      at = omega (arith, inv.at);
      near = inv.near;
      passed = rw c.from.ensures
          (item_more inv.passed _ _ _ inv.at c.loop-c-test.true (λ e. omega (arith, e, digit)) (omega (arith, digit)) (omega (arith, digit))
          c.if-value-gt4294967295.false);
    }

pub bounds-block-end : goal.bounds-block-end
bounds-block-end c =
    let inv = c.loop-c.invariant in
    omega (arith, behind c.args.block.now _ _ _ _ c.requires inv.near inv.at c.loop-c.auto.c-index-end)

pub returns-then-block-end-ne10 : goal.returns-then-block-end-ne10
unfolding by_asked
returns-then-block-end-ne10 c t =
    let inv = c.loop-c.invariant in
    let s = inv.passed in
    let near = behind c.args.block.now _ _ _ _ c.requires inv.near inv.at c.loop-c.auto.c-index-end in
    elim c.loop-c-test.branch [
      | else-loop-c-test w ↦ too_many s (omega (arith, near)) c.if-block-end-ne10.true
          (omega (
            arith,
            inv.at,
            w.loop-c-test.false,
            length-take (c.args.first + 10 - c.if-eight_digits.end) (drop c.if-eight_digits.end c.args.block.now),
            length-drop c.if-eight_digits.end c.args.block.now,
          ))
          t
      | then-loop-c-test+then-not-is_ascii_digit w ↦
          not_digit s (omega (arith, near)) c.if-block-end-ne10.true
          (λ h k. omega (arith, item_at s _ _ _ inv.at w.loop-c-test.true, h, k, w.if-not-is_ascii_digit.ensures.cases))
          t
      | then-loop-c-test+else-not-is_ascii_digit+then-value-gt4294967295 w ↦ too_large s w.if-value-gt4294967295.true t
    ]

pub returns-then-end-first : goal.returns-then-end-first
unfolding by_asked
returns-then-end-first c t =
    let inv = c.loop-c.invariant in
    let near = behind c.args.block.now _ _ _ _ c.requires inv.near inv.at c.loop-c.auto.c-index-end in
    none_there inv.passed (none_at inv.passed.reached (omega (arith, near)) c.if-block-end-ne10.false) c.if-end-first.true t

pub returns-in_err-bucket : goal.returns-in_err-bucket
unfolding by_asked
returns-in_err-bucket c =
    let large : 4_294_967_295 < c.loop-c.value = grind (arith, common_steps) in
    rw c.from_residual.ensures (too_large c.loop-c.invariant.passed large)

pub returns : goal.returns
unfolding by_asked
returns c =
    let inv = c.loop-c.invariant in
    let near = behind c.args.block.now _ _ _ _ c.requires inv.near inv.at c.loop-c.auto.c-index-end in
    let fits : c.loop-c.value ≤ 4_294_967_295 = grind (arith, common_steps) in
    let is : c.in_ok-bucket.bucket ≡ c.loop-c.value = grind (arith, common_steps) in
    rw is (digits_to inv.passed (omega (arith, near)) c.if-block-end-ne10.false c.if-end-first.false near fits)
