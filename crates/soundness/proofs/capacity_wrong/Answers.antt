use Rattle.std.proofs.Common.{◌≡◌, ℕ, ◌≤◌, Bool, sym, ap, ◌∙◌, subst, arith}
use Rattle.model.specs.Limits.{max_capacity}
use Rattle.model.specs.Table.{shape, table, sizes}
use Rattle.model.specs.Refusal.{outside, overfills, capacity_outside, capacity_wrong}
use Rattle.model.proofs.Rules.{or_first, or_last}
use Rattle.model.proofs.Capacities.{capacity_due}
use Rattle.model.proofs.Wells.{formed_well, some_bins_lem}
use Rattle.soundness.proofs.capacity_wrong.Goals as goal

-- what a test against the limit l says, where l is the capacity's
limited : (l p : ℕ) (w : Bool) → w ≡ outside l p → l ≡ max_capacity → w ≡ capacity_outside p
unfolding capacity_outside
limited l p w e same = e ∙ ap (λ l. outside l p) same

pub returns-then-is_outside : goal.returns-then-is_outside
unfolding capacity_wrong
returns-then-is_outside c ends blocks adjustments formed =
    sym (or_first _ _ (sym (limited _ _ _ c.is_outside.ensures (omega arith)) ∙ c.if-is_outside.true))

pub overfull-requires : goal.overfull-requires
overfull-requires c =
    subst (λ n. 1 ≤ n) (sym (c.bin_count.ensures _ _ _)) (some_bins_lem _ (formed_well _ _ c.requires.formed))

pub returns : goal.returns
unfolding shape table
returns c ends blocks adjustments formed =
    let h = c.args.h in
    c.overfull.ensures
    ∙ ap (λ n. overfills h.capacity (sizes h.buckets n)) (c.bin_count.ensures ends blocks adjustments)
    ∙ sym (capacity_due _ _ formed ∙ or_last _ _ (sym (limited _ _ _ c.is_outside.ensures (omega arith)) ∙ c.if-is_outside.false))
