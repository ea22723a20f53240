use mathlib.Core.Path.{sym, ◌∙◌}
use Rattle.std.proofs.lemmas.Result.{err_from_is_err_and}
use Rattle.model.specs.Calls.{table_tests}
use Rattle.model.proofs.Refusals.{first_here, first_skip, first_none}
use Rattle.model.proofs.Rules.{or_first, or_last, adjustments_long_lem}
use Rattle.soundness.proofs.Answers.{table_refused, table_last}
use Rattle.soundness.proofs.Passed.{lent_counted, rules_formed}
use Rattle.soundness.proofs.table_allowed.Goals.{then-header_outside-via-then-header_outside, then-header_outside-via-else-header_outside+then-arrays_short}
use Rattle.soundness.proofs.table_allowed.Goals as goal

pub returns-then-header_outside : goal.returns-then-header_outside
unfolding table_tests
returns-then-header_outside c =
    elim c.then-header_outside.branch [
      | then-header_outside-via-then-header_outside w ↦
          sym (first_here _ _ (or_first _ _ (sym c.header_outside.ensures ∙ w.if-header_outside.true)))
      | then-header_outside-via-else-header_outside+then-arrays_short w ↦
          sym
          (first_here _ _
          (or_last _ _ (sym c.header_outside.ensures ∙ w.if-header_outside.false)
          ∙ sym w.arrays_short.ensures
          ∙ w.if-arrays_short.true))
    ]

pub invariant_of-lent : goal.invariant_of-lent
invariant_of-lent c =
    let short = sym c.arrays_short.ensures ∙ c.if-arrays_short.false in
    record {
      counted = lent_counted _ _ (sym c.header_outside.ensures ∙ c.if-header_outside.false) short;
      adjustments_long = adjustments_long_lem _ _ short;
    }

pub returns-in_err-rules_allowed : goal.returns-in_err-rules_allowed
returns-in_err-rules_allowed c =
    let p = err_from_is_err_and c.from_residual.result c.from_residual.ensures.1 in
    rw (p.1, p.2)
    (table_refused _ _ (sym c.header_outside.ensures ∙ c.if-header_outside.false) (sym c.arrays_short.ensures ∙ c.if-arrays_short.false)
    _ c.in_err-rules_allowed.ensures)

pub capacity_wrong-requires : goal.capacity_wrong-requires
capacity_wrong-requires c =
    record {
      ends = _;
      blocks = _;
      adjustments = _;
      formed =
          rules_formed _ _ (sym c.header_outside.ensures ∙ c.if-header_outside.false)
          (sym c.arrays_short.ensures ∙ c.if-arrays_short.false) (sym c.in_ok-rules_allowed.ensures);
    }

pub returns-then-capacity_wrong : goal.returns-then-capacity_wrong
returns-then-capacity_wrong c =
    let inside = sym c.header_outside.ensures ∙ c.if-header_outside.false in
    let short = sym c.arrays_short.ensures ∙ c.if-arrays_short.false in
    let clear = sym c.in_ok-rules_allowed.ensures in
    sym
    (table_last _ _ inside short clear
    ∙ first_here _ _ (sym (c.capacity_wrong.ensures _ _ _ (rules_formed _ _ inside short clear)) ∙ c.if-capacity_wrong.true))

pub returns : goal.returns
returns c =
    let inside = sym c.header_outside.ensures ∙ c.if-header_outside.false in
    let short = sym c.arrays_short.ensures ∙ c.if-arrays_short.false in
    let clear = sym c.in_ok-rules_allowed.ensures in
    sym
    (table_last _ _ inside short clear
    ∙ first_skip _ _ (sym (c.capacity_wrong.ensures _ _ _ (rules_formed _ _ inside short clear)) ∙ c.if-capacity_wrong.false)
    ∙ first_none)
