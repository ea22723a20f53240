use mathlib.Core.Path.{sym, ◌∙◌}
use Rattle.sizes.proofs.Asked.{asked_buckets, asked_bins, asked_few, asked_right}
use Rattle.sizes.proofs.sizes_allowed.Goals.{then-is_outside-via-then-is_outside, then-is_outside-via-else-is_outside+then-is_outside-2}
use Rattle.sizes.proofs.sizes_allowed.Goals as goal

pub returns-then-is_outside : goal.returns-then-is_outside
returns-then-is_outside c =
    elim c.then-is_outside.branch [
      | then-is_outside-via-then-is_outside w ↦ asked_buckets _ _ (sym c.is_outside.ensures ∙ w.if-is_outside.true)
      | then-is_outside-via-else-is_outside+then-is_outside-2 w ↦ asked_bins _ _ (sym c.is_outside.ensures ∙ w.if-is_outside.false) (sym w.is_outside-else-is_outside.ensures ∙ w.if-is_outside-2.true)
    ]

pub returns-then-buckets-bins : goal.returns-then-buckets-bins
returns-then-buckets-bins c = asked_few _ _ (sym c.is_outside.ensures ∙ c.if-is_outside.false) (sym c.is_outside-else-is_outside.ensures ∙ c.if-is_outside-2.false) c.if-buckets-bins.true

pub returns : goal.returns
returns c = asked_right _ _ (sym c.is_outside.ensures ∙ c.if-is_outside.false) (sym c.is_outside-else-is_outside.ensures ∙ c.if-is_outside-2.false) c.if-buckets-bins.false
